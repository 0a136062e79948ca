use Rattle.std.proofs.Common.{◌≡◌, ◌++◌}
use Rattle.cost_reports.specs.Rows.{lent_sums, plain_rows}
use Rattle.cost_reports.proofs.ranks.key_rows.Given as goal

-- the rows so far, and those to come
abbrev pub invariant-loop-place : goal.invariant-loop-place
invariant-loop-place l = plain_rows l.rows.items ++ lent_sums l.place-iterator ≡ l.sums.sums
