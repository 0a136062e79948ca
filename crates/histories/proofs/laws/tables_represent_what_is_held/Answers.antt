use Rattle.histories.proofs.Tells.{tells_next, tells_run, tells_many, tells_runs, tells_digest, tells_group, tells_groups}
use Rattle.histories.proofs.laws.tables_represent_what_is_held.Goals as goal

pub returns : goal.returns
returns c = λ h t represent. record {
  next = tells_next h t represent;
  run = tells_run h t represent;
  runs = tells_many h t represent;
  each_run = tells_runs h t represent;
  digest = tells_digest h t represent;
  group = tells_group h t represent;
  groups = tells_groups h t represent;
}
