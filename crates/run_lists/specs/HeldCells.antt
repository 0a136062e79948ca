-- The cells of a run, handed on with the numbers of their names.
use Rattle.std.specs.Prelude.{◌≡◌, ℕ, List}
use Rattle.cost_rows.specs.declared.rows.CellRow.{CellRow}
use Rattle.plain_tables.specs.Tables.{StoredCell}
use Rattle.run_stores.specs.Walks.{CellsFoldTo}
use Rattle.run_lists.specs.declared.handed_cells.CellLines.{CellLines}

-- these lines were taken, of so many events
pub record HasTakenCellLines {T M : Type 0} (events : ℕ) (meaning : T → M) (step : M → CellRow ℕ → M) (start : M) (lines : List StoredCell) (taker : CellLines T) : Type 0 where
  pub events_same : taker.events ≡ events
  pub folded : CellsFoldTo events step start (meaning taker.sink) lines
