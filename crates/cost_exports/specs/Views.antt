-- Sums as the code holds them: by the names of places, and under these by line and event.
use Rattle.std.specs.Prelude.{◌≡◌, ℕ, false, List, [], ◌∷◌, ◌++◌, slice_index_or, Option, Some}
use Rattle.std.specs.declared.cmp.Ordering.{Ordering}
use Rattle.std.specs.BTreeMap.{is_at}
use Rattle.std.specs.Map.{lookup}
use Rattle.std.specs.Ordering.{nat_cmp, ordering_then}
use Rattle.std.specs.Rc.{rc_slice_items}
use Rattle.std.specs.declared.vec.Vec.{Vec}
use Rattle.csv.specs.Writing.{default_writer, fields_written, has_written, text_written, writer_setup}
use Rattle.csv.specs.declared.writer.Writer.{Writer}
use Rattle.cost_rows.specs.Merging.{merge_all, seen}
use Rattle.cost_rows.specs.Own.{valued}
use Rattle.cost_rows.specs.Slots.{AreSlotsBy}
use Rattle.cost_rows.specs.Stacks.{bytes_cmp, counts_added}
use Rattle.cost_rows.specs.declared.rows.CellRow.{CellRow}
use Rattle.report_texts.specs.Csv.{EventSpot}
use Rattle.cost_exports.specs.declared.cells.HeldLine.{HeldLine}
use Rattle.cost_exports.specs.declared.cells.HeldNames.{HeldNames}

-- the names of a place
pub record PlaceNames : Type 0 where
  pub object : List ℕ
  pub file : List ℕ
  pub function : List ℕ

-- a line, and an event by its name
pub record LineEvent : Type 0 where
  pub line : ℕ
  pub event : List ℕ

abbrev pub names_of_row : CellRow (List ℕ) → PlaceNames
names_of_row r = record { object = r.object; file = r.file; function = r.function }

abbrev pub names_cmp : PlaceNames → PlaceNames → Ordering
names_cmp a b = ordering_then (bytes_cmp a.object b.object) (ordering_then (bytes_cmp a.file b.file) (bytes_cmp a.function b.function))

abbrev pub line_cmp : LineEvent → LineEvent → Ordering
line_cmp a b = ordering_then (nat_cmp a.line b.line) (bytes_cmp a.event b.event)

-- a line and an event of a place with these names
abbrev pub spot_with : PlaceNames → LineEvent → EventSpot
spot_with names line = record { spot = record { object = names.object; file = names.file; function = names.function; line = line.line; thread = 0 }; event = line.event }

abbrev pub placed : PlaceNames → List (LineEvent × ℕ) → List (EventSpot × ℕ)
placed names [] = []
placed names (e ∷ lines) = (spot_with names e.0, e.1) ∷ placed names lines

-- the sums of all places, one after another
abbrev pub spread : List (PlaceNames × List (LineEvent × ℕ)) → List (EventSpot × ℕ)
spread [] = []
spread (g ∷ places) = placed g.0 g.1 ++ spread places

-- lines are added to those that the same names have
abbrev pub lines_added : List (LineEvent × ℕ) → List (LineEvent × ℕ) → List (LineEvent × ℕ)
lines_added held more = merge_all line_cmp counts_added held more

-- ---- places in slots

-- the slot of the names of each place, and the lines in each slot
pub record Slotted : Type 0 where
  pub slots : List (PlaceNames × ℕ)
  pub lines : List (List (LineEvent × ℕ))

-- what leads to slots, with the lines in them
abbrev pub with_lines : List (List (LineEvent × ℕ)) → List (PlaceNames × ℕ) → List (PlaceNames × List (LineEvent × ℕ))
with_lines lines slots = valued (λ n. slice_index_or lines n []) slots

-- each place and event with its cost
abbrev pub sums_in : Slotted → List (EventSpot × ℕ)
sums_in s = spread (with_lines s.lines s.slots)

-- the slot of some names
abbrev pub slot_of : PlaceNames → List (PlaceNames × ℕ) → Option ℕ
slot_of names slots = lookup (is_at (names_cmp names)) slots

-- the names stand in order, each with a slot of its own, and there are so many slots
abbrev pub AreSlots : List (PlaceNames × ℕ) → ℕ → Type 0
AreSlots = AreSlotsBy names_cmp

-- ---- as the code holds them

abbrev pub held_names : HeldNames → PlaceNames
held_names n = record { object = rc_slice_items n.object; file = rc_slice_items n.file; function = rc_slice_items n.function }

abbrev pub held_line : HeldLine → LineEvent
held_line l = record { line = l.line; event = rc_slice_items l.event }

abbrev pub held_lines : List (HeldLine × ℕ) → List (LineEvent × ℕ)
held_lines = seen held_line

abbrev pub held_slots : List (HeldNames × ℕ) → List (PlaceNames × ℕ)
held_slots = seen held_names

-- ---- a writer of rows

-- with the defaults of the crate, between two rows, it has written these bytes
pub record HasWritten {Z : Type 0} (w : Writer (Vec ℕ Z)) (bytes : List ℕ) : Type 0 where
  pub setup : writer_setup w ≡ default_writer
  pub text : text_written (λ (v : Vec ℕ Z). Some v.items) w ≡ Some bytes
  pub fields : fields_written w ≡ 0
  pub clean : has_written w ≡ false
