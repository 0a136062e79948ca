-- Sums by part, while lines are taken off them.
use Rattle.std.proofs.Common.{◌≡◌, ◌==◌, ◌&&◌, ℕ, zero, suc, true, List, [], ◌∷◌, slice_index, refl, ap₂, arith}
use Rattle.std.specs.List.{list_all}
use Rattle.std.proofs.lemmas.Bool.{and_parts, eq-eqb, eqb-true}
use Rattle.page_runs.specs.PartSums.{LeaveOf, SumTo}

module _ {L : Type 0} (part amount : L → ℕ) where
  -- no line leaves all
  pub none_off : (sums : List ℕ) → LeaveOf part amount [] sums sums
  none_off sums k = omega arith

  -- they sum to these where nothing is left
  pub all_off : (lines : List L) (sums left : List ℕ) → LeaveOf part amount lines sums left → ((k : ℕ) → slice_index left k ≡ 0) → SumTo part amount lines sums
  all_off lines sums left was none k =
      let before = was k in
      let nothing = none k in
      omega (arith, before, nothing)

-- ---- nothing is left

pub nothing_at : (left : List ℕ) → list_all (λ rest. rest == 0) left ≡ true → (k : ℕ) → slice_index left k ≡ 0
nothing_at [] all k = refl
nothing_at (rest ∷ left) all zero = let both = and_parts _ _ all in eqb-true rest 0 both.0
nothing_at (rest ∷ left) all (suc k) = let both = and_parts _ _ all in nothing_at left both.1 k

pub all_nothing : (left : List ℕ) → ((k : ℕ) → slice_index left k ≡ 0) → list_all (λ rest. rest == 0) left ≡ true
all_nothing [] none = refl
all_nothing (rest ∷ left) none = ap₂ ◌&&◌ (eq-eqb rest 0 (none 0)) (all_nothing left (λ k. none (suc k)))
