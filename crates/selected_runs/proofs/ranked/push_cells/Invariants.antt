use Rattle.std.proofs.Common.{◌≡◌, map, take}
use Rattle.std.specs.List.{AllByRecursion}
use Rattle.cost_reports.specs.Rows.{sum_of_row}
use Rattle.cost_rows.specs.Plain.{plain_cell}
use Rattle.run_stores.specs.Book.{IsHeld}
use Rattle.selected_runs.specs.Named.{named_sum}
use Rattle.selected_runs.specs.Ranked.{sums_of}
use Rattle.selected_runs.specs.Sums.{numbers_told}
use Rattle.selected_runs.proofs.ranked.push_cells.Given as goal

-- the rows so far, and their names are held
abbrev pub invariant-loop-row : goal.invariant-loop-row
invariant-loop-row g l = record {
  sums : map (λ r. sum_of_row (plain_cell r)) l.cells.items ≡ map (named_sum (g.N.NameTable.name_rows l.names) l.key) (sums_of (take l.row-index l.rows));
  held : AllByRecursion (IsHeld (g.N.NameTable.name_rows l.names)) (numbers_told l.key (sums_of (take l.row-index l.rows)));
}
