-- Sums in slots, to which keys lead, as parts of places do.
use Rattle.std.specs.Prelude.{◌≢◌, ℕ, ◌<◌, List, slice_index}
use Rattle.std.specs.declared.cmp.Ordering.{Ordering}
use Rattle.std.specs.List.Sorted.{IsStrictlySortedBy}
use Rattle.std.specs.Map.{keys_of}
use Rattle.cost_rows.specs.Own.{valued, HaveOwn}

-- the slot of each key, and the sum in each slot
pub record Slotted (K : Type 0) : Type 0 where
  pub slots : List (K × ℕ)
  pub sums : List ℕ

-- what leads to slots, with the sums in them
abbrev pub with_sums : {K : Type 0} → List ℕ → List (K × ℕ) → List (K × ℕ)
with_sums sums slots = valued (λ n. slice_index sums n) slots

-- each key with its sum
abbrev pub sums_in : {K : Type 0} → Slotted K → List (K × ℕ)
sums_in s = with_sums s.sums s.slots

-- two slots
abbrev pub Differ : ℕ → ℕ → Type 0
Differ m n = m ≢ n

-- the keys stand in order, each with a slot of its own, and there are so many slots
pub record AreSlotsBy {K : Type 0} (cmp : K → K → Ordering) (slots : List (K × ℕ)) (count : ℕ) : Type 0 where
  pub order : IsStrictlySortedBy cmp (keys_of slots)
  pub own : HaveOwn Differ (λ n. n < count) slots
