-- Sums by number, the greatest cost first.
use Rattle.std.specs.Prelude.{◌≡◌, ◌≢◌, ℕ, ◌-◌, ◌*◌, ◌≤◌, ◌<◌, ◌⊎◌, List, length, map, take, slice_index_or, Option, Some}
use Rattle.cost_rows.specs.declared.keys.Key.{Key}
use Rattle.selected_runs.specs.Sums.{numbers_total}
use Rattle.selected_runs.specs.declared.parts.NumberPart.{NumberPart}
use Rattle.selected_runs.specs.declared.parts.PartSum.{PartSum}

-- what rows are added up by, some of the sums, and the total of all
pub record SumsByCost : Type 0 where
  pub key : Key
  pub sums : List (NumberPart × ℕ)
  pub total : ℕ

-- a row as a sum
abbrev pub sum_of : PartSum → NumberPart × ℕ
sum_of row = (row.part, row.cost.0)

abbrev pub sums_of : List PartSum → List (NumberPart × ℕ)
sums_of rows = map sum_of rows

-- no cost is above one before it
abbrev pub CostsFall : List (NumberPart × ℕ) → Type 0
CostsFall sums = (i j : ℕ) (d : NumberPart × ℕ) → i ≤ j → j < length sums → (slice_index_or sums j d).1 ≤ (slice_index_or sums i d).1

-- so many sums are all, or as many as a limit, or they sum to a hundredth of what is needed
abbrev pub Reached : ℕ → Option ℕ → List (NumberPart × ℕ) → ℕ → Type 0
Reached need limit sums n =
    (n ≤ length sums) × ((n ≡ length sums) ⊎ (limit ≡ Some n) ⊎ (need ≤ numbers_total (take n sums) * 100))

-- no sum after so many costs as much as the last of these
abbrev pub IsApart : List (NumberPart × ℕ) → ℕ → Type 0
IsApart sums n = 0 < n → n < length sums → (d : NumberPart × ℕ) → (slice_index_or sums n d).1 ≢ (slice_index_or sums (n - 1) d).1
