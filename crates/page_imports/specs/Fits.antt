-- What has to fit so that the rows of a file can be put into lines.
use Rattle.std.specs.Prelude.{◌<◌, ◌+◌, ℕ, All, List, length, slice_index_or}
use Rattle.cost_rows.specs.ByNumber.{numbered_cell}
use Rattle.cost_rows.specs.Calls.{Calls}
use Rattle.cost_rows.specs.declared.places.Call.{Call}
use Rattle.cost_rows.specs.declared.places.CellPlace.{CellPlace}
use Rattle.page_imports.specs.RowFits.{CallFits, CellFits}

-- each cost above 0 at a place is that of a cell that fits
abbrev pub CostsFit : List ℕ → CellPlace × List ℕ → Type 0
CostsFit numbers e = (event : ℕ) → event < length e.1 → 0 < slice_index_or e.1 event 0 → CellFits numbers (numbered_cell e.0 event (slice_index_or e.1 event 0))

-- the number of calls fits, and each cost above 0
pub record PartsFit (numbers : List ℕ) (e : Call × Calls) : Type 0 where
  pub count : CallFits numbers e.0 0 e.1.count
  pub costs : (column : ℕ) → column < length e.1.costs → 0 < slice_index_or e.1.costs column 0
      → CallFits numbers e.0 (column + 1) (slice_index_or e.1.costs column 0)

-- those at all places fit
abbrev pub CellsFit : List ℕ → List (CellPlace × List ℕ) → Type 0
CellsFit numbers cells = All (CostsFit numbers) cells

abbrev pub CallsFit : List ℕ → List (Call × Calls) → Type 0
CallsFit numbers calls = All (PartsFit numbers) calls
