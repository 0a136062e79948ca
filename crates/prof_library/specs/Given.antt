-- Rows that are handed in, without where their names lie in memory, and what they add up to.
use Rattle.std.specs.Prelude.{ℕ, ◌+◌, List, [], ◌∷◌, map}
use Rattle.std.specs.Borrow.{Bor}
use Rattle.cost_rows.specs.Plain.{plain_cell, plain_stack}
use Rattle.cost_rows.specs.declared.rows.CellRow.{CellRow}
use Rattle.cost_rows.specs.declared.rows.ArcRow.{ArcRow}
use Rattle.cost_rows.specs.declared.rows.StackRow.{StackRow}
use Rattle.report_texts.specs.Calls.{Calls, CallsOfFunction, calls_by, calls_of_row}
use Rattle.cost_rows.specs.Sums.{Spot}
use Rattle.report_texts.specs.declared.call_sides.CallSide.{CallSide}

abbrev pub plain_cells : List (CellRow (Bor (List ℕ))) → List (CellRow (List ℕ))
plain_cells rows = map plain_cell rows

abbrev pub plain_stacks : List (StackRow (Bor (List ℕ))) → List (StackRow (List ℕ))
plain_stacks rows = map plain_stack rows

-- calls that cost what they do in one event
abbrev pub calls_in : List (ArcRow (Bor (List ℕ)) ℕ) → List Calls
calls_in rows = map calls_of_row rows

-- what cells cost
abbrev pub cost_of : List (CellRow (List ℕ)) → ℕ
cost_of [] = 0
cost_of (row ∷ rows) = row.cost + cost_of rows

-- the calls of a function, added up by the function on their other side
abbrev pub calls_of_function : CallSide → Spot → List Calls → CallsOfFunction
calls_of_function side f calls = record { side = side; function = f; sums = calls_by side f calls }
