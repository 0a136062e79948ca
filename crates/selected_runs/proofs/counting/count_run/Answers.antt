use Rattle.std.proofs.Common.{refl}
use Rattle.selected_runs.proofs.counting.count_run.Goals as goal

pub returns-clause-told : goal.returns-clause-told
returns-clause-told g c clean t represents = record { number_is = refl; head = c.in_ok-head.head; head_is = c.in_ok-head.ensures.told clean t represents; events_are = c.len-events.ensures; counts_are = c.in_ok-counts.ensures }
