-- The sums of a run's self costs, as the rows of its events have them.
use Rattle.std.specs.Prelude.{ℕ, suc, ◌==◌, List, [], ◌∷◌, map, filter, IsPermutation}
use Rattle.plain_tables.specs.Tables.{Tables, EventRow}

-- a sum and the place of its event
pub record PlacedSum : Type 0 where
  pub place : ℕ
  pub sum : ℕ

abbrev pub self_of_line : EventRow → PlacedSum
self_of_line e = record { place = e.place; sum = e.self_cost }

-- from a place on
abbrev pub sums_from : ℕ → List ℕ → List PlacedSum
sums_from place [] = []
sums_from place (sum ∷ sums) = record { place = place; sum = sum } ∷ sums_from (suc place) sums

-- the rows of a run's events
abbrev pub events_of_run : ℕ → Tables → List EventRow
events_of_run run t = filter (λ (e : EventRow). e.run == run) t.events

-- the sums are those of these rows, each at the place of its row
abbrev pub AreSelfSums : List EventRow → List ℕ → Type 0
AreSelfSums lines sums = IsPermutation (map self_of_line lines) (sums_from 0 sums)

-- the places of these rows go up from 0 by one, so that they have sums
abbrev pub HaveSelfSums : List EventRow → Type 0
HaveSelfSums lines = (sums : List ℕ) × AreSelfSums lines sums
