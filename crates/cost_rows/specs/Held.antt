-- Rows of which each number represents a name that is held.
use Rattle.std.specs.Prelude.{ℕ, ◌<◌, List, length}
use Rattle.std.specs.List.{AllByRecursion}
use Rattle.std.specs.Map.{keys_of}
use Rattle.cost_rows.specs.Content.{Content}
use Rattle.cost_rows.specs.declared.places.Place.{Place}
use Rattle.cost_rows.specs.declared.places.CellPlace.{CellPlace}
use Rattle.cost_rows.specs.declared.places.Call.{Call}

-- three numbers of names
abbrev pub IsHeld : List (List ℕ) → ℕ → ℕ → ℕ → Type 0
IsHeld names a b d = (a < length names) × (b < length names) × (d < length names)

-- those of a place
abbrev pub PlaceHeld : List (List ℕ) → Place → Type 0
PlaceHeld names p = IsHeld names p.object p.file p.function

-- those of a cell
abbrev pub CellHeld : List (List ℕ) → CellPlace → Type 0
CellHeld names p = PlaceHeld names p.place

-- those of a place and of what is called there
abbrev pub CallHeld : List (List ℕ) → Call → Type 0
CallHeld names a = PlaceHeld names a.place × IsHeld names a.object a.file a.function

pub record AreHeld (c : Content) : Type 0 where
  pub cells : AllByRecursion (CellHeld c.names) (keys_of c.cells)
  pub calls : AllByRecursion (CallHeld c.names) (keys_of c.calls)
