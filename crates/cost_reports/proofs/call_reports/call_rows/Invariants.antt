use Rattle.std.proofs.Common.{◌≡◌, ◌++◌}
use Rattle.cost_reports.specs.Rows.{lent_pairs, plain_calls}
use Rattle.cost_reports.proofs.call_reports.call_rows.Given as goal

-- the rows so far, and those to come
abbrev pub invariant-loop-place : goal.invariant-loop-place
invariant-loop-place l = plain_calls l.rows.items ++ lent_pairs l.place-iterator ≡ l.sums
