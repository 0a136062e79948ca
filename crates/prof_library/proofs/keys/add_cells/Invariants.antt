use Rattle.std.proofs.Common.{◌≡◌, ◌+◌, fold, drop}
use Rattle.cost_rows.specs.KeySums.{total_of, with_row}
use Rattle.prof_library.specs.Given.{cost_of, plain_cells}
use Rattle.prof_library.proofs.keys.add_cells.Given as goal

-- what is held with the rows to come is all
abbrev pub invariant-loop-row : goal.invariant-loop-row
invariant-loop-row l = record {
  sums : fold with_row l.sums (plain_cells (drop l.row-index l.rows)) ≡ fold with_row l.initial.sums (plain_cells l.rows);
  total : total_of l.sums.sums + cost_of (plain_cells (drop l.row-index l.rows)) ≡ total_of l.initial.sums.sums + cost_of (plain_cells l.rows);
}
