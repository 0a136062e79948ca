-- The lines of self costs and of calls: places in the rows of a file.
use Rattle.std.specs.Prelude.{ℕ, nat_lt, if◌then◌else◌, List, [], ◌∷◌}
use Rattle.cost_rows.specs.declared.numbered.CallSum.{CallSum}
use Rattle.cost_rows.specs.declared.numbered.CellSum.{CellSum}
use Rattle.cost_rows.specs.declared.places.Call.{Call}
use Rattle.cost_rows.specs.declared.places.CellPlace.{CellPlace}
use Rattle.plain_tables.specs.Tables.{StoredCall, StoredCell}
use Rattle.run_stores.specs.Files.{call_row_of, call_rows_at, cell_row_of, cell_rows_at}
use Rattle.page_imports.specs.declared.row_lines.CallLine.{CallLine}
use Rattle.page_imports.specs.declared.row_lines.CellLine.{CellLine}
use Rattle.page_imports.specs.declared.run_names.RunNames.{RunNames}

-- ---- self costs

-- the row of an event's cost at a place
abbrev pub self_row : RunNames → CellPlace → ℕ → ℕ → StoredCell
self_row names place event cost = cell_row_of names.run names.numbers.now place event cost

-- none where it is 0
abbrev pub event_row : RunNames → CellPlace → ℕ → ℕ → List StoredCell
event_row names place event cost = if nat_lt 0 cost then self_row names place event cost ∷ [] else []

-- those of all events
abbrev pub event_rows : RunNames → CellSum → List StoredCell
event_rows names r = cell_rows_at names.run names.numbers.now r.place.now 0 r.costs.now

-- the row that a line stands for
abbrev pub cell_line : CellLine → StoredCell
cell_line line = self_row line.names.now line.place.now line.event line.cost

-- ---- calls

-- the row of a part of calls
abbrev pub part_row : RunNames → Call → ℕ → ℕ → StoredCall
part_row names call part sum = call_row_of names.run names.numbers.now call part sum

-- that of a cost, unless it is 0
abbrev pub cost_row : RunNames → Call → ℕ → ℕ → List StoredCall
cost_row names call part cost = if nat_lt 0 cost then part_row names call part cost ∷ [] else []

-- those of all parts
abbrev pub part_rows : RunNames → CallSum → List StoredCall
part_rows names r = call_rows_at names.run names.numbers.now r.call.now (record { count = r.count; costs = r.costs.now })

-- the row that a line of calls stands for
abbrev pub call_line : CallLine → StoredCall
call_line line = part_row line.names.now line.call.now line.part line.sum
