use Rattle.std.proofs.Common.{◌≡◌, ◌++◌}
use Rattle.cost_reports.specs.Rows.{given_sums, lent_sums}
use Rattle.prof_library.proofs.keys.rows_of.Given as goal

-- the rows so far and the sums to come are all
abbrev pub invariant-loop-place : goal.invariant-loop-place
invariant-loop-place l = given_sums l.rows.items ++ lent_sums l.place-iterator ≡ l.sums.sums
