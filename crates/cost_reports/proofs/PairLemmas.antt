-- What pairs that are added up by place sum to.
use Rattle.std.proofs.Common.{inl, inr, ◌≡◌, ℕ, ◌≤◌, zero, suc, Bool, true, List, [], ◌∷◌, Some, refl, ap, ap₂, ◌∙◌, arith}
use Rattle.std.proofs.Math.Nat.{zero-add}
use Rattle.std.proofs.Math.Bool.{or-false}
use Rattle.std.specs.List.{list_any}
use Rattle.std.specs.List.Sorted.{IsStrictlySortedBy}
use Rattle.std.specs.Map.{lookup, keys_of}
use Rattle.std.proofs.lemmas.Bool.{cases_Bool}
use Rattle.cost_rows.specs.Keys.{named_cmp}
use Rattle.cost_rows.specs.Merging.{sum_where}
use Rattle.cost_rows.specs.Sums.{Spot}
use Rattle.cost_rows.proofs.KeysLemmas.{named_cmp-total, named_cmp-apart}
use Rattle.cost_rows.proofs.MergeLemmas.{sum-merge, sum-merge_all, sorted-merge_all, keys-merge_all}
use Rattle.report_texts.specs.Pairs.{pairs_added, pairs_with, pairs_by, pair_total}
use Rattle.report_texts.specs.declared.pairs.Pair.{Pair}

abbrev pub pair : ℕ → ℕ → Pair
pair m n = record { first = m; second = n }

-- two pairs are told apart by their numbers
abbrev pub measure : ℕ → Pair → ℕ
measure zero p = p.first
measure (suc i) p = p.second

pub told : (a b : Pair) → ((i : ℕ) → measure i a ≡ measure i b) → a ≡ b
told a b same = ap₂ pair (same 0) (same 1)

-- the totals grow by what is added
pub total_with : (place : Spot) (more : Pair) (sums : List (Spot × Pair)) → pair_total (pairs_with place more sums) ≡ pairs_added (pair_total sums) more
total_with place more sums =
    ap₂ pair (sum-merge named_cmp-apart pairs_added (λ _. true) (λ (p : Pair). p.first) (λ x y. refl) sums place more)
    (sum-merge named_cmp-apart pairs_added (λ _. true) (λ (p : Pair). p.second) (λ x y. refl) sums place more)

-- what is held at a key is at most what is held at all
pub pair_least : {K : Type 0} (measure : Pair → ℕ) (test : K → Bool) (es : List (K × Pair)) (held : Pair) → Some held ≡ lookup test es → measure held ≤ sum_where (λ _. true) measure es
pair_least measure test [] held found = absurd cc
pair_least measure test (e ∷ es) held found = elim (cases_Bool (test e.0)) [
  | inl is_here ↦
      let same : Some held ≡ Some e.1 = rw is_here at found in
      let is : held ≡ e.1 = cc in
      let m : measure held ≡ measure e.1 = ap measure is in
      omega (arith, m)
  | inr further ↦
      let rest : Some held ≡ lookup test es = rw further at found in
      let least = pair_least measure test es held rest in
      omega (arith, least)
]

-- sums by place are those of what was added, for every test of places
pub firsts_by : (passes : Spot → Bool) (amounts : List (Spot × Pair)) → sum_where passes (λ (p : Pair). p.first) (pairs_by amounts) ≡ sum_where passes (λ (p : Pair). p.first) amounts
firsts_by passes amounts =
    sum-merge_all named_cmp-apart pairs_added passes (λ (p : Pair). p.first) (λ x y. refl) [] amounts ∙ zero-add (sum_where passes (λ (p : Pair). p.first) amounts)

pub seconds_by : (passes : Spot → Bool) (amounts : List (Spot × Pair)) → sum_where passes (λ (p : Pair). p.second) (pairs_by amounts) ≡ sum_where passes (λ (p : Pair). p.second) amounts
seconds_by passes amounts =
    sum-merge_all named_cmp-apart pairs_added passes (λ (p : Pair). p.second) (λ x y. refl) [] amounts ∙ zero-add (sum_where passes (λ (p : Pair). p.second) amounts)

-- each place stands once, in order
pub sorted_by : (amounts : List (Spot × Pair)) → IsStrictlySortedBy named_cmp (keys_of (pairs_by amounts))
unfolding IsStrictlySortedBy
sorted_by amounts = sorted-merge_all named_cmp-total pairs_added [] amounts tt

pub keys_by : (passes : Spot → Bool) (amounts : List (Spot × Pair)) → list_any passes (keys_of (pairs_by amounts)) ≡ list_any passes (keys_of amounts)
keys_by passes amounts = keys-merge_all named_cmp-apart pairs_added passes [] amounts ∙ or-false (list_any passes (keys_of amounts))
