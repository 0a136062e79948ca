-- Sums by key, and what a row adds to them.
use Rattle.std.specs.Prelude.{◌≡◌, ℕ, ◌+◌, ◌<◌, ◌^◌, Bool, List, [], ◌∷◌, fold, nat_eq, if◌then◌else◌}
use Rattle.std.specs.List.{AllByRecursion}
use Rattle.std.specs.List.Sorted.{IsStrictlySortedBy}
use Rattle.std.specs.Map.{keys_of, values_of}
use Rattle.cost_rows.specs.Sums.{Spot}
use Rattle.cost_rows.specs.Keys.{named_cmp, part_of, place_of_row}
use Rattle.cost_rows.specs.Merging.{merge, sum_of_all, sum_where}
use Rattle.cost_rows.specs.Stacks.{counts_added}
use Rattle.cost_rows.specs.declared.keys.Key.{Key}
use Rattle.cost_rows.specs.declared.rows.CellRow.{CellRow}

-- sums of reports stay below this
abbrev pub sum_end : ℕ
sum_end = 2 ^ 112

-- what rows are added up by, and a sum for each part of a place, in order
pub record Sums : Type 0 where
  pub key : Key
  pub sums : List (Spot × ℕ)

-- a cost is added at its part
abbrev pub sums_with : Spot → ℕ → List (Spot × ℕ) → List (Spot × ℕ)
sums_with part cost sums = merge named_cmp counts_added sums part cost

-- a row's cost is added at its part; a cost of 0 adds nothing
abbrev pub with_row : Sums → CellRow (List ℕ) → Sums
with_row s row =
    if nat_eq row.cost 0 then s
    else record { key = s.key; sums = sums_with (part_of s.key (place_of_row row)) row.cost s.sums }

-- the sum of all
abbrev pub total_of : List (Spot × ℕ) → ℕ
total_of = sum_of_all

-- sums as rows, of event 0
abbrev pub rows_of : List (Spot × ℕ) → List (CellRow (List ℕ))
rows_of [] = []
rows_of (e ∷ sums) = record { object = e.0.object; file = e.0.file; function = e.0.function; line = e.0.line; thread = e.0.thread; event = 0; cost = e.1 } ∷ rows_of sums

-- what rows cost at the parts of their places that pass a test
abbrev pub cost_where : Key → (Spot → Bool) → List (CellRow (List ℕ)) → ℕ
cost_where key passes [] = 0
cost_where key passes (row ∷ rows) = (if passes (part_of key (place_of_row row)) then row.cost else 0) + cost_where key passes rows

-- the sums of rows that are added one after another
abbrev pub sums_by : Key → List (CellRow (List ℕ)) → List (Spot × ℕ)
sums_by key rows = (fold with_row (record { key = key; sums = [] }) rows).sums

-- each part stands once, in order, with a sum above 0
pub record AreSums (sums : List (Spot × ℕ)) : Type 0 where
  pub order : IsStrictlySortedBy named_cmp (keys_of sums)
  pub above : AllByRecursion (λ n. 0 < n) (values_of sums)

-- for every test of the parts of places that a key tells, the sums that pass are what the rows cost there
pub record AddUpBy (key : Key) (rows : List (CellRow (List ℕ))) : Type 0 where
  pub sums : (passes : Spot → Bool) → sum_where passes (λ n. n) (sums_by key rows) ≡ cost_where key passes rows
  pub are : AreSums (sums_by key rows)
