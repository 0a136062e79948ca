use Rattle.store_laws.proofs.HeldRuns.{held_runs}
use Rattle.store_laws.proofs.laws.small_tables_name_held_runs.Goals as goal

pub returns : goal.returns
returns c t db was = held_runs t db was
