-- Costs without the zeros at their end.
use Rattle.std.proofs.Common.{inl, inr, ◌≡◌, ℕ, zero, suc, ◌<◌, false, List, [], ◌∷◌, ◌++◌, All, slice_index, nat_eq, refl, sym, ap, ◌∙◌, arith}
use Rattle.std.proofs.lemmas.Bool.{cases_Bool, eqb-true}
use Rattle.std.proofs.lemmas.List.Elements.{All-nil, All-cons, All-head, All-tail}
use Rattle.cost_rows.specs.Trimmed.{before, trimmed}

-- ---- each column stays

first-before : (cost : ℕ) (costs : List ℕ) → slice_index (before cost costs) 0 ≡ cost
first-before cost [] = elim (cases_Bool (nat_eq cost 0)) [
  | inl none ↦ rw none (sym (eqb-true cost 0 none))
  | inr some ↦ rw some refl
]
first-before cost (next ∷ costs) = refl

later-before : (cost : ℕ) (costs : List ℕ) (k : ℕ) → slice_index (before cost costs) (suc k) ≡ slice_index costs k
later-before cost [] k = elim (cases_Bool (nat_eq cost 0)) [
  | inl none ↦ rw none refl
  | inr some ↦ rw some refl
]
later-before cost (next ∷ costs) k = refl

pub column-trimmed : (costs : List ℕ) (k : ℕ) → slice_index (trimmed costs) k ≡ slice_index costs k
column-trimmed [] k = refl
column-trimmed (cost ∷ costs) zero = first-before cost (trimmed costs)
column-trimmed (cost ∷ costs) (suc k) = later-before cost (trimmed costs) k ∙ column-trimmed costs k

-- ---- so does a bound

low-before : (bound cost : ℕ) (costs : List ℕ) → cost < bound → All (λ c. c < bound) costs → All (λ c. c < bound) (before cost costs)
low-before bound cost [] low all = elim (cases_Bool (nat_eq cost 0)) [
  | inl none ↦ rw none (All-nil (λ c. c < bound))
  | inr some ↦ rw some (All-cons (λ c. c < bound) cost [] low all)
]
low-before bound cost (next ∷ costs) low all = All-cons (λ c. c < bound) cost (next ∷ costs) low all

pub low-trimmed : (bound : ℕ) (costs : List ℕ) → All (λ c. c < bound) costs → All (λ c. c < bound) (trimmed costs)
low-trimmed bound [] all = all
low-trimmed bound (cost ∷ costs) all =
    low-before bound cost (trimmed costs) (All-head (λ c. c < bound) cost costs all) (low-trimmed bound costs (All-tail (λ c. c < bound) cost costs all))

-- ---- what stands at the end

pub not_zero : (n : ℕ) → 0 < n → nat_eq n 0 ≡ false
not_zero n above = elim (cases_Bool (nat_eq n 0)) [
  | inl none ↦ let is : n ≡ 0 = eqb-true n 0 none in absurd (omega (arith, is, above))
  | inr some ↦ some
]

pub trimmed-zero : (costs : List ℕ) → trimmed (costs ++ 0 ∷ []) ≡ trimmed costs
trimmed-zero [] = refl
trimmed-zero (cost ∷ costs) = ap (before cost) (trimmed-zero costs)

before-more : (cost : ℕ) (costs : List ℕ) (last : ℕ) → before cost (costs ++ last ∷ []) ≡ cost ∷ costs ++ last ∷ []
before-more cost [] last = refl
before-more cost (next ∷ costs) last = refl

pub trimmed-some : (costs : List ℕ) (last : ℕ) → nat_eq last 0 ≡ false → trimmed (costs ++ last ∷ []) ≡ costs ++ last ∷ []
trimmed-some [] last some = rw some refl
trimmed-some (cost ∷ costs) last some = ap (before cost) (trimmed-some costs last some) ∙ before-more cost costs last
