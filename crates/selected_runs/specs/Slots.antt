-- Sums by number in slots, in the order in which their parts came.
use Rattle.std.specs.Prelude.{◌≡◌, ℕ, ◌+◌, ◌<◌, List, [], ◌∷◌, length, map, slice_index_or, IsPermutation}
use Rattle.cost_rows.specs.Slots.{with_sums, AreSlotsBy}
use Rattle.selected_runs.specs.Sums.{numbers_cmp}
use Rattle.selected_runs.specs.declared.parts.NumberPart.{NumberPart}
use Rattle.selected_runs.specs.declared.parts.PartSum.{PartSum}

-- what stands in slots: the parts, and what they cost
abbrev pub parts_of : List PartSum → List NumberPart
parts_of slots = map (λ s. s.part) slots

abbrev pub costs_of : List PartSum → List ℕ
costs_of slots = map (λ s. s.cost.0) slots

-- parts with the numbers of their slots, from one on
abbrev pub numbered : ℕ → List NumberPart → List (NumberPart × ℕ)
numbered slot [] = []
numbered slot (part ∷ parts) = (part, slot) ∷ numbered (slot + 1) parts

-- each part leads to its slot
pub record LeadToParts (places : List (NumberPart × ℕ)) (parts : List NumberPart) : Type 0 where
  pub are : AreSlotsBy numbers_cmp places (length parts)
  pub same : IsPermutation (numbered 0 parts) places

-- the part in a slot
abbrev pub IsSlotOf : List PartSum → ℕ → NumberPart → Type 0
IsSlotOf slots slot part = (slot < length slots) × ((d : PartSum) → (slice_index_or slots slot d).part ≡ part)

-- the sums in slots, in the order of the parts
abbrev pub sums_at : List (NumberPart × ℕ) → List PartSum → List (NumberPart × ℕ)
sums_at places slots = with_sums (costs_of slots) places
