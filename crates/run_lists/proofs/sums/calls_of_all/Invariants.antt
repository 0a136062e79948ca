use Rattle.std.proofs.Common.{◌≡◌, ◌<◌, sum_by, take}
use Rattle.cost_rows.specs.KeySums.{sum_end}
use Rattle.run_lists.specs.declared.listed.ListedRun.{ListedRun}
use Rattle.run_lists.proofs.sums.calls_of_all.Given as goal

abbrev pub invariant-loop-run : goal.invariant-loop-run
invariant-loop-run l = (l.count ≡ sum_by (λ (r : ListedRun). r.call_count) (take l.run-index l.runs)) × (l.count < sum_end)
