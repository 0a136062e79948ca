-- The rows that are walked with names by their numbers, and no cell whose sum is 0.
use Rattle.std.specs.Prelude.{ℕ, List, [], ◌∷◌, ◌++◌, map}
use Rattle.std.specs.Borrow.{Bor}
use Rattle.cost_rows.specs.Above.{rows_above}
use Rattle.cost_rows.specs.declared.places.CellPlace.{CellPlace}
use Rattle.cost_rows.specs.declared.places.Call.{Call}
use Rattle.cost_rows.specs.Calls.{Calls}
use Rattle.cost_rows.specs.declared.rows.CellRow.{CellRow}
use Rattle.cost_rows.specs.declared.rows.ArcRow.{ArcRow}
use Rattle.cost_rows.specs.declared.numbered.CallSum.{CallSum}
use Rattle.cost_rows.specs.declared.numbered.CellSum.{CellSum}

-- the row of an event's sum at a place
abbrev pub numbered_cell : CellPlace → ℕ → ℕ → CellRow ℕ
numbered_cell p event cost =
    record { object = p.place.object; file = p.place.file; function = p.place.function; line = p.place.line; thread = p.thread; event = event; cost = cost }

-- the rows of a place, from an event on
abbrev pub numbered_at : CellPlace → ℕ → List ℕ → List (CellRow ℕ)
numbered_at p event costs = rows_above (numbered_cell p) event costs

abbrev pub numbered_cells : List (CellPlace × List ℕ) → List (CellRow ℕ)
numbered_cells [] = []
numbered_cells (e ∷ cells) = numbered_at e.0 0 e.1 ++ numbered_cells cells

abbrev pub numbered_call : Call × Calls → ArcRow ℕ (List ℕ)
numbered_call e = record {
  object = e.0.place.object;
  file = e.0.place.file;
  function = e.0.place.function;
  line = e.0.place.line;
  called_object = e.0.object;
  called_file = e.0.file;
  called_function = e.0.function;
  count = e.1.count;
  costs = e.1.costs;
}

abbrev pub numbered_calls : List (Call × Calls) → List (ArcRow ℕ (List ℕ))
numbered_calls calls = map numbered_call calls

-- a row as the code lends it, without where its costs lie in memory
abbrev pub plain_numbered : ArcRow ℕ (Bor (List ℕ)) → ArcRow ℕ (List ℕ)
plain_numbered r = record {
  object = r.object;
  file = r.file;
  function = r.function;
  line = r.line;
  called_object = r.called_object;
  called_file = r.called_file;
  called_function = r.called_function;
  count = r.count;
  costs = r.costs.now;
}

-- so are a place and calls with their sums
abbrev pub plain_cell_sum : CellSum → CellPlace × List ℕ
plain_cell_sum r = (r.place.now, r.costs.now)

abbrev pub plain_call : CallSum → Call × Calls
plain_call r = (r.call.now, record { count = r.count; costs = r.costs.now })
