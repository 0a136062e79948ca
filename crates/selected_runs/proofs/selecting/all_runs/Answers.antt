use Rattle.std.proofs.Common.{Ok, ap}
use Rattle.selected_runs.proofs.selecting.all_runs.Goals as goal

pub returns-clause-told : goal.returns-clause-told
returns-clause-told g c clean t represents = ap Ok (c.in_ok-numbers.ensures.told clean t represents)
