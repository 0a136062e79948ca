-- The costs of a cost line.
use Rattle.std.specs.Prelude.{ℕ, ◌+◌, ◌-◌, ◌<◌, ◌^◌, All, List, ◌++◌, length, drop, replicate, nat_lt, if◌then◌else◌, Result, Ok, Err, Option, Some, None}
use Rattle.cg_text.specs.Readings.{Reading}
use Rattle.cg_text.specs.Fields.{fields_of}
use Rattle.cg_text.specs.Numbers.{amount_of}
use Rattle.cg_text.specs.declared.faults.Fault.{Fault}
use Rattle.cg_text.specs.declared.faults.Fault.TheVariants.{NoEvents, ShortLine, TooManyCosts}
use Rattle.callgrind_reader.specs.Faulty.{◌>>=◌, each}
use Rattle.callgrind_reader.specs.Events.{events_of}
use Rattle.callgrind_reader.specs.Positions.{Offsets, layout_of, width, offsets_at, place_of}
use Rattle.callgrind_reader.specs.declared.layouts.Layout.{Layout}

-- each is in the range of a cost
abbrev pub AreAmounts : List ℕ → Type 0
AreAmounts costs = All (λ c. c < 2 ^ 63) costs

-- costs that are missing at the end are 0
abbrev pub padded : ℕ → List ℕ → List ℕ
padded n costs = costs ++ replicate (n - length costs) 0

-- a line number with the costs of some fields
abbrev pub with_costs : ℕ → List (List ℕ) → ℕ → Result (ℕ × List ℕ) Fault
with_costs n fields line = each amount_of fields >>= λ costs. Ok (line, padded n costs)

-- the fault of a line with too few fields or too many, where n is the number of events
abbrev pub shape_fault : ℕ → Layout → List (List ℕ) → Option Fault
shape_fault n layout fields =
    if nat_lt (length fields) (width layout) then Some ShortLine
    else (if nat_lt (width layout + n) (length fields) then Some TooManyCosts else None)

-- what the fields say, from left to right: an address and a line number, as far as they are there, and costs
abbrev pub fields_row : ℕ → Layout → Offsets → List (List ℕ) → Result (ℕ × List ℕ) Fault
fields_row n layout o fields = place_of layout o fields >>= λ line. with_costs n (drop (width layout) fields) line

abbrev pub unless_shape : Option Fault → Result (ℕ × List ℕ) Fault → Result (ℕ × List ℕ) Fault
unless_shape None row = row
unless_shape (Some fault) row = Err fault

abbrev pub row_of : Option (List (List ℕ)) → Layout → Offsets → List (List ℕ) → Result (ℕ × List ℕ) Fault
row_of None layout o fields = Err NoEvents
row_of (Some events) layout o fields = unless_shape (shape_fault (length events) layout fields) (fields_row (length events) layout o fields)

-- the line number and the costs of a cost line
abbrev pub row_at : List ℕ → List Reading → Result (ℕ × List ℕ) Fault
row_at text back = row_of (events_of back) (layout_of back) (offsets_at back) (fields_of text)
