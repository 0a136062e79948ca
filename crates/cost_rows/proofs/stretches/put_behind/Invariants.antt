use Rattle.std.proofs.Common.{◌≡◌, ◌++◌, take}
use Rattle.profile_records.specs.Columns.{added}
use Rattle.cost_rows.specs.Stretches.{sums_at}
use Rattle.cost_rows.proofs.stretches.put_behind.Given as goal

-- behind the sums stand those of the columns before k
abbrev pub invariant-loop-k : goal.invariant-loop-k
invariant-loop-k l = l.sums.items ≡ l.fn.sums.items ++ take l.k (added (sums_at l.fn.sums.items l.held) l.costs)
