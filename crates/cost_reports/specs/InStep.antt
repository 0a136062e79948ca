-- Two lists of sums in the order of their places, read in step.
use Rattle.std.specs.Prelude.{◌≡◌, ℕ, Bool, true, false, List, [], ◌∷◌, Option, Some, None}
use Rattle.std.specs.List.Sorted.{IsStrictlySortedBy}
use Rattle.std.specs.Map.{keys_of}
use Rattle.cost_rows.specs.Keys.{lent_place, named_cmp}
use Rattle.cost_rows.specs.Sums.{Spot}
use Rattle.report_texts.specs.Differences.{beside, pair_on}
use Rattle.report_texts.specs.declared.differences.Side.{Side}
use Rattle.report_texts.specs.declared.differences.Side.TheVariants.{First, Second}
use Rattle.cost_reports.specs.Rows.{plain_row}
use Rattle.cost_reports.specs.declared.differences.Next.{Next}
use Rattle.cost_reports.specs.declared.rows.Row.{Row}

-- each place stands once, in order
abbrev pub IsInOrder : List (Spot × ℕ) → Type 0
IsInOrder sums = IsStrictlySortedBy named_cmp (keys_of sums)

-- a row and the sums behind it, or none
abbrev pub from_row : Option Row → List (Spot × ℕ) → List (Spot × ℕ)
from_row None sums = []
from_row (Some row) sums = plain_row row ∷ sums

-- the sums that are left when a row is taken, or is not
abbrev pub left_of : Bool → Option Row → List (Spot × ℕ) → List (Spot × ℕ)
left_of true row sums = sums
left_of false row sums = from_row row sums

-- a row of one side, which the other does not have
abbrev pub IsAlone : Side → Row → Next → Type 0
IsAlone First row next = (lent_place next.place ≡ lent_place row.place) × (next.pair ≡ pair_on First row.cost.0) × (next.of_first ≡ true) × (next.of_second ≡ false)
IsAlone Second row next = (lent_place next.place ≡ lent_place row.place) × (next.pair ≡ pair_on Second row.cost.0) × (next.of_first ≡ false) × (next.of_second ≡ true)

-- it comes next of what both have side by side, and behind it what is left of them, which is in order
abbrev pub ComesNext : Option Row → List (Spot × ℕ) → Option Row → List (Spot × ℕ) → Option Next → Type 0
ComesNext first firsts second seconds None = beside (from_row first firsts) (from_row second seconds) ≡ []
ComesNext first firsts second seconds (Some next) =
    (beside (from_row first firsts) (from_row second seconds) ≡ (lent_place next.place, next.pair) ∷ beside (left_of next.of_first first firsts) (left_of next.of_second second seconds))
    × IsInOrder (left_of next.of_first first firsts)
    × IsInOrder (left_of next.of_second second seconds)
