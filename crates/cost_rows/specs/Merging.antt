-- Sums by key: entries in the order of their keys, into which amounts are merged.
use Rattle.std.specs.Prelude.{◌≡◌, ℕ, ◌+◌, Bool, true, ◌||◌, List, [], ◌∷◌, fold, if◌then◌else◌}
use Rattle.std.specs.declared.cmp.Ordering.{Ordering}
use Rattle.std.specs.declared.cmp.Ordering.TheVariants.{Equal}
use Rattle.std.specs.Ordering.{match_ordering}
use Rattle.std.specs.List.{list_any}
use Rattle.std.specs.List.Sorted.{IsStrictlySortedBy}
use Rattle.std.specs.Map.{keys_of}

-- an amount is added at its key; a new key goes to its place in the order
abbrev pub merge : {K X : Type 0} → (K → K → Ordering) → (X → X → X) → List (K × X) → K → X → List (K × X)
merge cmp add [] key amount = (key, amount) ∷ []
merge cmp add (e ∷ entries) key amount =
    match_ordering (cmp key e.0)
    ((key, amount) ∷ e ∷ entries)
    ((e.0, add e.1 amount) ∷ entries)
    (e ∷ merge cmp add entries key amount)

-- amounts with their keys, merged one after another
abbrev pub merge_all : {K X : Type 0} → (K → K → Ordering) → (X → X → X) → List (K × X) → List (K × X) → List (K × X)
merge_all cmp add entries amounts = fold (λ es a. merge cmp add es a.0 a.1) entries amounts

-- the sum of a measure over the entries whose keys pass a test
abbrev pub sum_where : {K X : Type 0} → (K → Bool) → (X → ℕ) → List (K × X) → ℕ
sum_where passes measure [] = 0
sum_where passes measure (e ∷ entries) = (if passes e.0 then measure e.1 else 0) + sum_where passes measure entries

-- the sum of all
abbrev pub sum_of_all : {K : Type 0} → List (K × ℕ) → ℕ
sum_of_all = sum_where (λ _. true) (λ n. n)

-- an order by which only equal keys compare as equal
abbrev pub TellsApart : {K : Type 0} → (K → K → Ordering) → Type 0
TellsApart {K} cmp = (x y : K) → cmp x y ≡ Equal → x ≡ y

-- a measure of which sums have the sum
abbrev pub AddsUp : {X : Type 0} → (X → X → X) → (X → ℕ) → Type 0
AddsUp {X} add measure = (x y : X) → measure (add x y) ≡ measure x + measure y

module _ {K X : Type 0} (cmp : K → K → Ordering) (add : X → X → X) where
  -- for every test of keys, the sum over the merged entries is the sum before and that of the amounts
  abbrev pub KeepsSums : (X → ℕ) → Type 0
  KeepsSums measure =
      (passes : K → Bool) (entries amounts : List (K × X))
      → sum_where passes measure (merge_all cmp add entries amounts) ≡ sum_where passes measure entries + sum_where passes measure amounts

  -- the keys stay in order, each once
  abbrev pub KeepsOrder : Type 0
  KeepsOrder =
      (entries amounts : List (K × X)) → IsStrictlySortedBy cmp (keys_of entries) → IsStrictlySortedBy cmp (keys_of (merge_all cmp add entries amounts))

  -- and are those before and those of the amounts
  abbrev pub KeepsKeys : Type 0
  KeepsKeys =
      (passes : K → Bool) (entries amounts : List (K × X))
      → list_any passes (keys_of (merge_all cmp add entries amounts)) ≡ (list_any passes (keys_of amounts) || list_any passes (keys_of entries))

-- entries, their keys seen as something else
abbrev pub seen : {K L X : Type 0} → (K → L) → List (K × X) → List (L × X)
seen see [] = []
seen see (e ∷ entries) = (see e.0, e.1) ∷ seen see entries
