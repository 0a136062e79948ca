-- The order of places, of cells and of calls: by the numbers of names, then by line, then by thread or by what is called.
use Rattle.std.specs.declared.cmp.Ordering.{Ordering}
use Rattle.std.specs.Ordering.{nat_cmp, ordering_then}
use Rattle.cost_rows.specs.declared.places.Place.{Place}
use Rattle.cost_rows.specs.declared.places.CellPlace.{CellPlace}
use Rattle.cost_rows.specs.declared.places.Call.{Call}

abbrev pub place_cmp : Place → Place → Ordering
place_cmp a b =
    ordering_then (nat_cmp a.object b.object)
    (ordering_then (nat_cmp a.file b.file)
    (ordering_then (nat_cmp a.function b.function) (nat_cmp a.line b.line)))

abbrev pub cell_cmp : CellPlace → CellPlace → Ordering
cell_cmp a b = ordering_then (place_cmp a.place b.place) (nat_cmp a.thread b.thread)

abbrev pub call_cmp : Call → Call → Ordering
call_cmp a b =
    ordering_then (place_cmp a.place b.place)
    (ordering_then (nat_cmp a.object b.object)
    (ordering_then (nat_cmp a.file b.file) (nat_cmp a.function b.function)))
