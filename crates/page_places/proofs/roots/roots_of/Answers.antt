use Rattle.std.proofs.Common.{refl, arith}
use Rattle.page_places.proofs.roots.roots_of.Goals as goal

pub returns : goal.returns
returns c known tables indexes = record {
  meta = tables.is 0 (omega arith) _ refl;
  runs = tables.is 1 (omega arith) _ refl;
  run_digests = indexes.is 0 (omega arith) _ refl;
  events = tables.is 2 (omega arith) _ refl;
  event_places = indexes.is 1 (omega arith) _ refl;
  event_names = indexes.is 2 (omega arith) _ refl;
  derived = tables.is 3 (omega arith) _ refl;
  derived_places = indexes.is 3 (omega arith) _ refl;
  derived_names = indexes.is 4 (omega arith) _ refl;
  coefs = tables.is 4 (omega arith) _ refl;
  coef_keys = indexes.is 5 (omega arith) _ refl;
  names = tables.is 5 (omega arith) _ refl;
  name_bytes = indexes.is 6 (omega arith) _ refl;
  calls = tables.is 6 (omega arith) _ refl;
  call_keys = indexes.is 7 (omega arith) _ refl;
  stacks = tables.is 7 (omega arith) _ refl;
  stack_frames = indexes.is 8 (omega arith) _ refl;
  groups = tables.is 8 (omega arith) _ refl;
  group_names = indexes.is 9 (omega arith) _ refl;
  members = tables.is 9 (omega arith) _ refl;
  member_keys = indexes.is 10 (omega arith) _ refl;
  cells = tables.is 10 (omega arith) _ refl;
  cell_keys = indexes.is 11 (omega arith) _ refl;
}
