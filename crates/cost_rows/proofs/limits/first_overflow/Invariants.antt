use Rattle.std.proofs.Common.{◌≡◌, drop}
use Rattle.cost_rows.specs.Admit.{column_sums, first_above}
use Rattle.cost_rows.proofs.limits.first_overflow.Given as goal

-- the columns so far fit
abbrev pub invariant-loop-column : goal.invariant-loop-column
invariant-loop-column l = first_above (column_sums l.side 0 l.held l.file) ≡ first_above (column_sums l.side l.column (drop l.column l.held) (drop l.column l.file))
