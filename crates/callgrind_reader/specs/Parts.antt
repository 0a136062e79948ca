-- How the parts of a line's step tell what they found.
use Rattle.std.specs.Prelude.{◌≡◌, ℕ, ◌+◌, ◌≤◌, List, ◌++◌, length, Result, Ok, Err, Option, Some, None, OnOk}
use Rattle.cg_text.specs.declared.faults.Fault.{Fault}
use Rattle.callgrind_reader.specs.Positions.{Offsets, width}
use Rattle.callgrind_reader.specs.Costs.{AreAmounts, padded, shape_fault, fields_row, unless_shape}
use Rattle.callgrind_reader.specs.Places.{IsPlaced, MovesOn}
use Rattle.callgrind_reader.specs.declared.layouts.Layout.{Layout}
use Rattle.callgrind_reader.specs.declared.places.Places.{Places}
use Rattle.callgrind_reader.specs.declared.places.PlacedLine.{PlacedLine}

-- a list, unless there is a fault
abbrev pub list_or : Option Fault → List ℕ → Result (List ℕ) Fault
list_or None xs = Ok xs
list_or (Some fault) xs = Err fault

-- a list in front of another, unless there is a fault
abbrev pub with_front : List ℕ → Result (List ℕ) Fault → Result (List ℕ) Fault
with_front front (Ok xs) = Ok (front ++ xs)
with_front front (Err fault) = Err fault

-- the line number of a line with a row of costs, unless there is a fault
abbrev pub placed_row : Result PlacedLine Fault → List ℕ → Result (ℕ × List ℕ) Fault
placed_row (Ok p) costs = Ok (p.line, costs)
placed_row (Err fault) costs = Err fault

-- the fields of a cost line were read, from left to right, its costs into a row
pub record ReadFields (layout : Layout) (before : Places) (fields : List (List ℕ)) (row : List ℕ) (r : Result PlacedLine Fault) : Type 0 where
  pub said : (n : ℕ) (o : Offsets) → IsPlaced before o → width layout ≤ length fields → fields_row n layout o fields ≡ placed_row r (padded n row)
  pub moves : MovesOn layout before fields r
  pub count : OnOk r (width layout + length row ≡ length fields)
  pub small : OnOk r (AreAmounts row)

-- a cost line was read, its costs into a row, one for each event
pub record ReadRow (events : ℕ) (layout : Layout) (before : Places) (fields : List (List ℕ)) (row : List ℕ) (r : Result PlacedLine Fault) : Type 0 where
  pub said : (o : Offsets) → IsPlaced before o → placed_row r row ≡ unless_shape (shape_fault events layout fields) (fields_row events layout o fields)
  pub moves : MovesOn layout before fields r
  pub wide : OnOk r (length row ≡ events)
  pub small : OnOk r (AreAmounts row)
