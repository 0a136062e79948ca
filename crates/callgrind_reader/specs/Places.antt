-- When kept positions represent offsets, and what is read after them.
use Rattle.std.specs.Prelude.{◌≡◌, ℕ, ◌+◌, ◌≤◌, List, length, drop, Result, Ok, Err, IfOk}
use Rattle.cg_text.specs.Fields.{fields_of}
use Rattle.cg_text.specs.declared.faults.Fault.{Fault}
use Rattle.callgrind_reader.specs.Positions.{Offsets, width, place_of, offsets_after}
use Rattle.callgrind_reader.specs.declared.layouts.Layout.{Layout}
use Rattle.callgrind_reader.specs.declared.places.Places.{Places}
use Rattle.callgrind_reader.specs.declared.places.PlacedLine.{PlacedLine}

pub record IsPlaced (p : Places) (o : Offsets) : Type 0 where
  pub address : p.address + o.address_down ≡ o.address_up
  pub line : p.line + o.line_down ≡ o.line_up

abbrev pub line_said : Result PlacedLine Fault → Result ℕ Fault
line_said (Ok p) = Ok p.line
line_said (Err fault) = Err fault

-- the positions after the line represent the offsets after it
abbrev pub MovesOn : Layout → Places → List (List ℕ) → Result PlacedLine Fault → Type 0
MovesOn layout before fields result = IfOk result (λ p. (o : Offsets) → IsPlaced before o → IsPlaced p.places (offsets_after layout fields o))

-- the line number of a line with these fields, and its costs; a line with too few fields has a fault of any kind
pub record ReadPlaces (layout : Layout) (before : Places) (fields : List (List ℕ)) (result : Result PlacedLine Fault) : Type 0 where
  pub place : (o : Offsets) → IsPlaced before o → width layout ≤ length fields → place_of layout o fields ≡ line_said result
  pub moves : MovesOn layout before fields result
  pub costs : IfOk result (λ p. fields_of p.costs.now ≡ drop (width layout) fields)
  pub count : IfOk result (λ p. width layout + length (fields_of p.costs.now) ≡ length fields)
