use Rattle.std.proofs.Common.{◌≡◌, ◌++◌, map, drop}
use Rattle.cost_reports.specs.Rows.{given_sums, plain_row}
use Rattle.cost_reports.proofs.ranks.rows_of.Given as goal

-- the rows so far, and those to come
abbrev pub invariant-loop-sum : goal.invariant-loop-sum
invariant-loop-sum l = map plain_row l.rows.items ++ given_sums (drop l.sum-index l.sums) ≡ given_sums l.sums
