use Rattle.std.proofs.Common.{◌≡◌, ◌+◌, ◌<◌, ℕ, List, fold, sum_by}
use Rattle.cost_rows.specs.KeySums.{rows_of, total_of, with_row, sum_end}
use Rattle.cost_rows.specs.declared.rows.CellRow.{CellRow}
use Rattle.cost_reports.proofs.inclusives.add_sums.Given as goal

-- what is held with the sums to come is all
abbrev pub invariant-loop-row : goal.invariant-loop-row
invariant-loop-row l = record {
  sums : fold with_row l.sums l.row-iterator ≡ fold with_row l.initial.sums (rows_of l.others.sums);
  key : l.sums.key ≡ l.initial.sums.key;
  small : total_of l.sums.sums + sum_by (λ (r : CellRow (List ℕ)). r.cost) l.row-iterator < sum_end;
}
