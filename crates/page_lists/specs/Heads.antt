-- The order of the lines of a head.
use Rattle.std.specs.Prelude.{ℕ, List}
use Rattle.std.specs.List.Sorted.{IsSortedByKey}
use Rattle.std.specs.Ordering.{nat_cmp, ordering_then}
use Rattle.run_lists.specs.declared.head_lines.HeadCoef.{HeadCoef}

-- coefficients in the order of their places and, of one place, of their events
abbrev pub AreInPlaces : List HeadCoef → Type 0
AreInPlaces lines = IsSortedByKey (λ (c : HeadCoef). (c.place, c.event)) (λ (x y : ℕ × ℕ). ordering_then (nat_cmp x.0 y.0) (nat_cmp x.1 y.1)) lines
