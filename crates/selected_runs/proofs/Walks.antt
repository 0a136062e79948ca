-- Rows that were handed on, in the words of the book.
use Rattle.std.proofs.Common.{◌≡◌, ℕ, List, map, fold, ap, ◌∙◌}
use Rattle.cost_rows.specs.declared.rows.CellRow.{CellRow}
use Rattle.plain_tables.specs.RunRows.{cells_in}
use Rattle.plain_tables.specs.Tables.{Tables, NameRow}
use Rattle.run_stores.specs.Book.{cell_held, cells_held}
use Rattle.selected_runs.specs.NamedRows.{NamedCellsFoldTo}

module _ {M : Type 0} (names : List NameRow) (events : ℕ) where
  pub cells_come : (step : M → CellRow (List ℕ) → M) (start : M) (run : ℕ) (t : Tables) (came : M) → NamedCellsFoldTo names events step start came (cells_in run t) → names ≡ t.names → came ≡ fold step start (cells_held run t)
  cells_come step start run t came was same = was.comes ∙ ap (λ (n : List NameRow). fold step start (map (cell_held n) (cells_in run t))) same
