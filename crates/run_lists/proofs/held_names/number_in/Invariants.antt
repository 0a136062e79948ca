use Rattle.std.proofs.Common.{◌≢◌, drop}
use Rattle.std.specs.List.{AllByRecursion}
use Rattle.run_stores.specs.Book.{no_name}
use Rattle.run_lists.proofs.NumbersOfNames.{IsOtherHeld}
use Rattle.run_lists.proofs.held_names.number_in.Given as goal

abbrev pub invariant-loop-held : goal.invariant-loop-held
invariant-loop-held l = record {
  some : l.name ≢ no_name;
  -- all are of other names where those to come are
  others : AllByRecursion (IsOtherHeld l.name) (drop l.held-index l.names) → AllByRecursion (IsOtherHeld l.name) l.names;
}
