-- What rows are added up by, and the part of a place that a key tells.
use Rattle.std.specs.Prelude.{ℕ, List, codes}
use Rattle.std.specs.declared.cmp.Ordering.{Ordering}
use Rattle.std.specs.Ordering.{nat_cmp, ordering_then}
use Rattle.cg_text.specs.Names.{unknown}
use Rattle.cost_rows.specs.Merging.{seen}
use Rattle.cost_rows.specs.Stacks.{bytes_cmp}
use Rattle.cost_rows.specs.Sums.{Spot}
use Rattle.cost_rows.specs.declared.keys.Key.{Key}
use Rattle.cost_rows.specs.declared.keys.LentPlace.{LentPlace}
use Rattle.cost_rows.specs.declared.keys.Part.{Part}
use Rattle.cost_rows.specs.declared.rows.CellRow.{CellRow}
use Rattle.cost_rows.specs.declared.keys.Key.TheVariants.{Object, File, Function, Line, Thread}

-- the word of a key
abbrev pub key_name : Key → List ℕ
key_name Object = codes "object"
key_name File = codes "file"
key_name Function = codes "function"
key_name Line = codes "line"
key_name Thread = codes "thread"

-- the part of a place that a key tells; the others are unknown
abbrev pub part_of : Key → Spot → Spot
part_of Object p = record { object = p.object; file = unknown; function = unknown; line = 0; thread = 0 }
part_of File p = record { object = unknown; file = p.file; function = unknown; line = 0; thread = 0 }
part_of Function p = record { object = p.object; file = unknown; function = p.function; line = 0; thread = 0 }
part_of Line p = record { object = unknown; file = p.file; function = unknown; line = p.line; thread = 0 }
part_of Thread p = record { object = unknown; file = unknown; function = unknown; line = 0; thread = p.thread }

-- places by their parts, texts by bytes
abbrev pub named_cmp : Spot → Spot → Ordering
named_cmp a b =
    ordering_then (bytes_cmp a.object b.object)
    (ordering_then (bytes_cmp a.file b.file)
    (ordering_then (bytes_cmp a.function b.function)
    (ordering_then (nat_cmp a.line b.line) (nat_cmp a.thread b.thread))))

-- a place as it is kept
abbrev pub plain_place : Part → Spot
plain_place p = record { object = p.object.items; file = p.file.items; function = p.function.items; line = p.line; thread = p.thread }

-- a place as it is lent
abbrev pub lent_place : LentPlace → Spot
lent_place p = record { object = p.object.now; file = p.file.now; function = p.function.now; line = p.line; thread = p.thread }

-- the place of a row
abbrev pub place_of_row : CellRow (List ℕ) → Spot
place_of_row r = record { object = r.object; file = r.file; function = r.function; line = r.line; thread = r.thread }

-- sums by part, the parts as plain data
abbrev pub plain_sums : {X : Type 0} → List (Part × X) → List (Spot × X)
plain_sums = seen plain_place
