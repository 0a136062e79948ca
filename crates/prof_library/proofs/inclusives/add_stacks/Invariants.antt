use Rattle.std.proofs.Common.{◌≡◌, ◌+◌, fold, drop}
use Rattle.cost_rows.specs.KeySums.{rows_of, total_of, with_row}
use Rattle.report_texts.specs.Inclusive.{row_costs}
use Rattle.prof_library.specs.Given.{plain_stacks}
use Rattle.prof_library.proofs.inclusives.add_stacks.Given as goal

-- what is held with the stacks to come is all
abbrev pub invariant-loop-row : goal.invariant-loop-row
invariant-loop-row l = record {
  sums : fold with_row l.sums (rows_of (row_costs (plain_stacks (drop l.row-index l.rows)))) ≡ fold with_row l.initial.sums (rows_of (row_costs (plain_stacks l.rows)));
  total : total_of l.sums.sums + total_of (row_costs (plain_stacks (drop l.row-index l.rows))) ≡ total_of l.initial.sums.sums + total_of (row_costs (plain_stacks l.rows));
}
