-- The places of small identifiers, which stand in a list.
use Rattle.std.specs.Prelude.{ℕ, List, Option, Some, None, slice_get}

-- what stands in a list of places, if anything
abbrev pub kept_in : Option (Option ℕ) → Option ℕ
kept_in None = None
kept_in (Some place) = place

abbrev pub place_near : List (Option ℕ) → ℕ → Option ℕ
place_near near id = kept_in (slice_get near id)
