-- Lists that add up alike: for every measure their elements have the same sum. So they have the same sums by key.
use Rattle.std.proofs.Common.{zero, suc, ◌≡◌, ℕ, ◌+◌, Bool, true, false, ◌||◌, nat_lt, if◌then◌else◌, List, [], ◌∷◌, ◌++◌, flat_map, sum_by, refl, sym, ap, ap₂, ◌∙◌, arith}
use Rattle.std.specs.declared.cmp.Ordering.{Ordering}
use Rattle.std.specs.Cmp.{IsTotalOrder}
use Rattle.std.specs.List.{list_any}
use Rattle.std.specs.Map.{keys_of}
use Rattle.std.proofs.lemmas.Bool.Decides.{nat_tests}
use Rattle.std.proofs.lemmas.List.Sums.{sum_by-cons, sum_by-append}
use Rattle.cost_rows.specs.Keys.{part_of}
use Rattle.cost_rows.specs.KeySums.{cost_where, rows_of, sums_by, total_of}
use Rattle.cost_rows.specs.Merging.{sum_where, TellsApart}
use Rattle.cost_rows.specs.Sums.{Spot}
use Rattle.cost_rows.specs.declared.keys.Key.{Key}
use Rattle.cost_rows.proofs.KeysLemmas.{named_cmp-total, named_cmp-apart}
use Rattle.report_texts.specs.Pairs.{pairs_by}
use Rattle.report_texts.specs.declared.pairs.Pair.{Pair}
use Rattle.cost_reports.proofs.KeyLemmas.{same_by_key}
use Rattle.cost_reports.proofs.PairLemmas.{measure, told, firsts_by, seconds_by, keys_by, sorted_by}
use Rattle.cost_reports.proofs.SameSums.{same_merged}
use Rattle.report_texts.specs.Amounts.{amounts_by}
use Rattle.cost_exports.proofs.AmountLemmas.{same_amounts}

abbrev pub Alike : {A : Type 0} → List A → List A → Type 0
Alike {A} xs ys = (m : A → ℕ) → sum_by m xs ≡ sum_by m ys

-- ---- of pieces

module _ {A B : Type 0} (piece : A → List B) where
  sum_of_pieces : (m : B → ℕ) (xs : List A) → sum_by m (flat_map piece xs) ≡ sum_by (λ x. sum_by m (piece x)) xs
  sum_of_pieces m [] = refl
  sum_of_pieces m (x ∷ xs) =
      sum_by-append m (piece x) (flat_map piece xs)
      ∙ ap (λ n. sum_by m (piece x) + n) (sum_of_pieces m xs)
      ∙ sym (sum_by-cons (λ y. sum_by m (piece y)) x xs)

  pub pieces_alike : (xs ys : List A) → Alike xs ys → Alike (flat_map piece xs) (flat_map piece ys)
  pieces_alike xs ys same m = sum_of_pieces m xs ∙ same (λ x. sum_by m (piece x)) ∙ sym (sum_of_pieces m ys)

pub both_alike : {A : Type 0} (xs ys us vs : List A) → Alike xs us → Alike ys vs → Alike (xs ++ ys) (us ++ vs)
both_alike xs ys us vs one other m = sum_by-append m xs ys ∙ ap₂ ◌+◌ (one m) (other m) ∙ sym (sum_by-append m us vs)

-- ---- tests

module _ {A : Type 0} (passes : A → Bool) where
  abbrev one : A → ℕ
  one x = if passes x then 1 else 0

  any_by_sum : (xs : List A) → list_any passes xs ≡ nat_lt 0 (sum_by one xs)
  any_by_sum [] = grind (arith, nat_tests)
  any_by_sum (x ∷ xs) = go (passes x) (list_any passes xs) (sum_by one xs) (any_by_sum xs) ∙ ap (nat_lt 0) (sym (sum_by-cons one x xs))
    where
      go : (b more : Bool) (n : ℕ) → more ≡ nat_lt 0 n → b || more ≡ nat_lt 0 ((if b then 1 else 0) + n)
      go true more n rest = grind (arith, nat_tests)
      go false more n rest = rest ∙ ap (nat_lt 0) (let k : n ≡ 0 + n = omega arith in k)

  pub any_alike : (xs ys : List A) → Alike xs ys → list_any passes xs ≡ list_any passes ys
  any_alike xs ys same = any_by_sum xs ∙ ap (nat_lt 0) (same one) ∙ sym (any_by_sum ys)

-- ---- entries

module _ {K X : Type 0} (passes : K → Bool) (m : X → ℕ) where
  abbrev here : K × X → ℕ
  here e = if passes e.0 then m e.1 else 0

  where_is : (xs : List (K × X)) → sum_where passes m xs ≡ sum_by here xs
  where_is [] = refl
  where_is (e ∷ xs) = ap (λ n. here e + n) (where_is xs) ∙ sym (sum_by-cons here e xs)

  pub where_alike : (xs ys : List (K × X)) → Alike xs ys → sum_where passes m xs ≡ sum_where passes m ys
  where_alike xs ys same = where_is xs ∙ same here ∙ sym (where_is ys)

pub total_alike : (xs ys : List (Spot × ℕ)) → Alike xs ys → total_of xs ≡ total_of ys
total_alike = where_alike (λ _. true) (λ n. n)

keys_any : {K X : Type 0} (passes : K → Bool) (xs : List (K × X)) → list_any passes (keys_of xs) ≡ list_any (λ (e : K × X). passes e.0) xs
keys_any passes [] = refl
keys_any passes (e ∷ xs) = ap (λ b. passes e.0 || b) (keys_any passes xs)

pub keys_alike : {K X : Type 0} (passes : K → Bool) (xs ys : List (K × X)) → Alike xs ys → list_any passes (keys_of xs) ≡ list_any passes (keys_of ys)
keys_alike passes xs ys same = keys_any passes xs ∙ any_alike (λ e. passes e.0) xs ys same ∙ sym (keys_any passes ys)

-- ---- sums by key

cost_is : (key : Key) (passes : Spot → Bool) (xs : List (Spot × ℕ)) → cost_where key passes (rows_of xs) ≡ sum_where (λ p. passes (part_of key p)) (λ n. n) xs
cost_is key passes [] = refl
cost_is key passes (e ∷ xs) = ap (λ n. (if passes (part_of key e.0) then e.1 else 0) + n) (cost_is key passes xs)

pub sums_alike : (key : Key) (xs ys : List (Spot × ℕ)) → Alike xs ys → sums_by key (rows_of xs) ≡ sums_by key (rows_of ys)
sums_alike key xs ys same = same_by_key key (rows_of xs) (rows_of ys) (λ passes.
    cost_is key passes xs ∙ where_alike (λ p. passes (part_of key p)) (λ n. n) xs ys same ∙ sym (cost_is key passes ys))

pub amounts_alike : {K : Type 0} {cmp : K → K → Ordering} → IsTotalOrder cmp → TellsApart cmp → (xs ys : List (K × ℕ)) → Alike xs ys → amounts_by cmp xs ≡ amounts_by cmp ys
amounts_alike order exact xs ys same = same_amounts order exact xs ys (λ passes. where_alike passes (λ n. n) xs ys same)

pub pairs_alike : (xs ys : List (Spot × Pair)) → Alike xs ys → pairs_by xs ≡ pairs_by ys
pairs_alike xs ys same =
    same_merged named_cmp-total named_cmp-apart measure told (pairs_by xs) (pairs_by ys) (sorted_by xs) (sorted_by ys)
    (λ passes. keys_by passes xs ∙ keys_alike passes xs ys same ∙ sym (keys_by passes ys))
    sums
  where
    sums : (i : ℕ) (passes : Spot → Bool) → sum_where passes (measure i) (pairs_by xs) ≡ sum_where passes (measure i) (pairs_by ys)
    sums zero passes = firsts_by passes xs ∙ where_alike passes (λ (p : Pair). p.first) xs ys same ∙ sym (firsts_by passes ys)
    sums (suc i) passes = seconds_by passes xs ∙ where_alike passes (λ (p : Pair). p.second) xs ys same ∙ sym (seconds_by passes ys)
