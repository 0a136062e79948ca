-- Positions: an address, a line number, or both.
use Rattle.std.specs.Prelude.{ℕ, ◌+◌, ◌-◌, ◌^◌, Bool, true, false, ◌&&◌, List, [], ◌∷◌, nat_le, nat_lt, if◌then◌else◌, codes, Result, Ok, Err, Option, Some, None, unwrap_or}
use Rattle.std.specs.Str.{bytes_eq}
use Rattle.cg_text.specs.Readings.{Reading}
use Rattle.cg_text.specs.Kinds.{Header, Cost, Calls}
use Rattle.cg_text.specs.Fields.{fields_of}
use Rattle.cg_text.specs.Subpositions.{subpos_of}
use Rattle.cg_text.specs.declared.faults.Fault.{Fault}
use Rattle.cg_text.specs.declared.faults.Fault.TheVariants.{PositionsForm, PositionRange}
use Rattle.cg_text.specs.declared.words.HeaderKey.TheVariants.{Positions}
use Rattle.cg_text.specs.declared.positions.SubPos.{SubPos}
use Rattle.cg_text.specs.declared.positions.SubPos.TheVariants.{Abs, Plus, Minus, Same}
use Rattle.callgrind_reader.specs.Faulty.{◌>>=◌}
use Rattle.callgrind_reader.specs.declared.layouts.Layout.{Layout}
use Rattle.callgrind_reader.specs.declared.layouts.Layout.TheVariants.{Line, InstrLine, Instr}

-- ---- which positions a cost line has

-- what a `positions:` line means
abbrev pub form_of : List (List ℕ) → Option Layout
form_of [] = None
form_of (f ∷ []) = if bytes_eq f (codes "line") then Some Line else (if bytes_eq f (codes "instr") then Some Instr else None)
form_of (f ∷ g ∷ []) = if bytes_eq f (codes "instr") && bytes_eq g (codes "line") then Some InstrLine else None
form_of (f ∷ g ∷ h ∷ fs) = None

abbrev pub or_line : Option Layout → Layout
or_line o = unwrap_or o Line

abbrev pub first_form : Option Layout → Option Layout → Option Layout
first_form (Some earlier) later = Some earlier
first_form None later = later

-- the positions settled by the lines so far: by the first `positions:` line, or, where none stands before it, by
-- the first cost line or `calls=` line, which settles `line`
abbrev pub settled : List Reading → Option Layout
settled [] = None
settled (Ok (Header Positions value) ∷ back) = first_form (settled back) (form_of (fields_of value))
settled (Ok (Cost text) ∷ back) = Some (or_line (settled back))
settled (Ok (Calls value) ∷ back) = Some (or_line (settled back))
settled (r ∷ back) = settled back

-- the positions at a line
abbrev pub layout_of : List Reading → Layout
layout_of back = or_line (settled back)

abbrev pub same_layout : Layout → Layout → Option Fault
same_layout Line Line = None
same_layout InstrLine InstrLine = None
same_layout Instr Instr = None
same_layout a b = Some PositionsForm

-- the fault of a `positions:` line of this form
abbrev pub positions_fault : Option Layout → Option Layout → Option Fault
positions_fault None earlier = Some PositionsForm
positions_fault (Some form) None = None
positions_fault (Some form) (Some earlier) = same_layout form earlier

abbrev pub width : Layout → ℕ
width Line = 1
width InstrLine = 2
width Instr = 1

-- ---- the two columns: an address, then a line number, each there or not

abbrev pub has_address : Layout → Bool
has_address Line = false
has_address InstrLine = true
has_address Instr = true

abbrev pub has_line : Layout → Bool
has_line Line = true
has_line InstrLine = true
has_line Instr = false

-- the field of a column, and the fields behind it
abbrev pub column : Bool → List (List ℕ) → Option (List ℕ)
column true (f ∷ fs) = Some f
column is_there fs = None

abbrev pub behind : Bool → List (List ℕ) → List (List ℕ)
behind true (f ∷ fs) = fs
behind is_there fs = fs

abbrev pub address_field : Layout → List (List ℕ) → Option (List ℕ)
address_field layout fields = column (has_address layout) fields

abbrev pub line_field : Layout → List (List ℕ) → Option (List ℕ)
line_field layout fields = column (has_line layout) (behind (has_address layout) fields)

-- ---- a position is the nearest number in its column and the offsets since: those up, less those down

-- the offsets in both columns: a number counts as one up, and ends what stood before it
pub record Offsets : Type 0 where
  pub address_up : ℕ
  pub address_down : ℕ
  pub line_up : ℕ
  pub line_down : ℕ

abbrev pub up : SubPos → ℕ → ℕ
up (Abs n) u = n
up (Plus n) u = u + n
up (Minus n) u = u
up Same u = u

abbrev pub down : SubPos → ℕ → ℕ
down (Abs n) d = 0
down (Plus n) d = d
down (Minus n) d = d + n
down Same d = d

abbrev pub moved_by : (SubPos → ℕ → ℕ) → Result SubPos Fault → ℕ → ℕ
moved_by move (Ok p) u = move p u
moved_by move (Err fault) u = u

abbrev pub moved : (SubPos → ℕ → ℕ) → Option (List ℕ) → ℕ → ℕ
moved move None u = u
moved move (Some field) u = moved_by move (subpos_of field) u

-- the offsets after a cost line with these fields
abbrev pub offsets_after : Layout → List (List ℕ) → Offsets → Offsets
offsets_after layout fields o = record {
  address_up = moved up (address_field layout fields) o.address_up;
  address_down = moved down (address_field layout fields) o.address_down;
  line_up = moved up (line_field layout fields) o.line_up;
  line_down = moved down (line_field layout fields) o.line_down;
}

abbrev pub offsets_at : List Reading → Offsets
offsets_at [] = record { address_up = 0; address_down = 0; line_up = 0; line_down = 0 }
offsets_at (Ok (Cost text) ∷ back) = offsets_after (layout_of back) (fields_of text) (offsets_at back)
offsets_at (r ∷ back) = offsets_at back

abbrev pub ranged : ℕ → ℕ → ℕ → Result ℕ Fault
ranged limit u d = if nat_le d u && nat_lt (u - d) limit then Ok (u - d) else Err PositionRange

-- the position that a field gives, with these offsets before it; 0 where the column is not there
abbrev pub placed : ℕ → Option (List ℕ) → ℕ → ℕ → Result ℕ Fault
placed limit None u d = Ok 0
placed limit (Some field) u d = subpos_of field >>= λ p. ranged limit (up p u) (down p d)

-- an address is below 2^64
abbrev pub address_of : Layout → List (List ℕ) → Offsets → Result ℕ Fault
address_of layout fields o = placed (2 ^ 64) (address_field layout fields) o.address_up o.address_down

-- a line number is below 2^63
abbrev pub line_of : Layout → List (List ℕ) → Offsets → Result ℕ Fault
line_of layout fields o = placed (2 ^ 63) (line_field layout fields) o.line_up o.line_down

-- the line number of a cost line, whose address is looked at first
abbrev pub place_of : Layout → Offsets → List (List ℕ) → Result ℕ Fault
place_of layout o fields = address_of layout fields o >>= λ address. line_of layout fields o
