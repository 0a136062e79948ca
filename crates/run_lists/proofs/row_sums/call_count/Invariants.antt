use Rattle.std.proofs.Common.{◌≡◌, take}
use Rattle.run_lists.specs.RowSums.{counts_of_calls}
use Rattle.run_lists.proofs.row_sums.call_count.Given as goal

abbrev pub invariant-loop-run : goal.invariant-loop-run
invariant-loop-run l = l.count ≡ counts_of_calls l.number (take l.run-index l.runs)
