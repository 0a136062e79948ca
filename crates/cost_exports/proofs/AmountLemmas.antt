-- Amounts that are added one after another, told by their sums for every test.
use Rattle.std.proofs.Common.{inl, inr, ◌≡◌, ℕ, ◌+◌, ◌<◌, Bool, true, nat_eq, if◌then◌else◌, List, [], ◌∷◌, ◌++◌, fold, refl, sym, ap, ◌∙◌, add_assoc, arith}
use Rattle.std.proofs.Math.Nat.{add-zero, zero-add}
use Rattle.std.specs.declared.cmp.Ordering.{Ordering}
use Rattle.std.specs.Cmp.{IsTotalOrder}
use Rattle.std.specs.List.{AllByRecursion}
use Rattle.std.specs.List.Sorted.{IsStrictlySortedBy}
use Rattle.std.specs.Map.{keys_of, values_of}
use Rattle.std.proofs.lemmas.Bool.{cases_Bool, ne_eqb}
use Rattle.cost_rows.specs.Merging.{merge, sum_where, TellsApart}
use Rattle.cost_rows.specs.Stacks.{counts_added}
use Rattle.cost_rows.proofs.MergeLemmas.{above-merge, nothing, positive, sum-merge, sorted-merge}
use Rattle.cost_reports.proofs.SameSums.{same_sums}
use Rattle.report_texts.specs.Amounts.{amount_of, amounts_by, with_amount}

-- ---- one amount

pub with_some : {K : Type 0} (cmp : K → K → Ordering) (sums : List (K × ℕ)) (key : K) (n : ℕ) → (n ≡ 0 → ⊥) → with_amount cmp sums key n ≡ merge cmp counts_added sums key n
with_some cmp sums key n some = rw (ne_eqb n 0 some) refl

module _ {K : Type 0} {cmp : K → K → Ordering} (exact : TellsApart cmp) where
  pub amount-merge : (sums : List (K × ℕ)) (key : K) (n : ℕ) → amount_of (merge cmp counts_added sums key n) ≡ amount_of sums + n
  amount-merge sums key n = sum-merge exact counts_added (λ _. true) (λ n. n) (λ x y. refl) sums key n

  module _ (passes : K → Bool) where
    abbrev pub sum : List (K × ℕ) → ℕ
    sum entries = sum_where passes (λ n. n) entries

    pub sum-with : (sums : List (K × ℕ)) (key : K) (n : ℕ) → sum (with_amount cmp sums key n) ≡ sum sums + (if passes key then n else 0)
    sum-with sums key n = elim (cases_Bool (nat_eq n 0)) [
      | inl none ↦ rw none (let e = nothing (passes key) n none in omega (arith, e))
      | inr some ↦ rw some (sum-merge exact counts_added passes (λ n. n) (λ x y. refl) sums key n)
    ]

    pub sum-all : (sums amounts : List (K × ℕ)) → sum (fold (λ s (a : K × ℕ). with_amount cmp s a.0 a.1) sums amounts) ≡ sum sums + sum amounts
    sum-all sums [] = sym (add-zero (sum sums))
    sum-all sums (a ∷ amounts) =
        sum-all (with_amount cmp sums a.0 a.1) amounts
        ∙ ap (λ n. n + sum amounts) (sum-with sums a.0 a.1)
        ∙ add_assoc (sum sums) (if passes a.0 then a.1 else 0) (sum amounts)

    pub sum-by : (amounts : List (K × ℕ)) → sum (amounts_by cmp amounts) ≡ sum amounts
    sum-by amounts = sum-all [] amounts ∙ zero-add (sum amounts)

  pub amount-with : (sums : List (K × ℕ)) (key : K) (n : ℕ) → amount_of (with_amount cmp sums key n) ≡ amount_of sums + n
  amount-with sums key n = sum-with (λ _. true) sums key n

pub sum-append : {K : Type 0} (passes : K → Bool) (xs ys : List (K × ℕ)) → sum_where passes (λ n. n) (xs ++ ys) ≡ sum_where passes (λ n. n) xs + sum_where passes (λ n. n) ys
sum-append passes [] ys = sym (zero-add (sum_where passes (λ n. n) ys))
sum-append passes (x ∷ xs) ys =
    let here : ℕ = if passes x.0 then x.1 else 0 in
    ap (λ n. here + n) (sum-append passes xs ys) ∙ sym (add_assoc here (sum_where passes (λ n. n) xs) (sum_where passes (λ n. n) ys))

-- ---- all amounts: each key once, in order, with a sum above 0

module _ {K : Type 0} {cmp : K → K → Ordering} (order : IsTotalOrder cmp) where
  abbrev Above : List (K × ℕ) → Type 0
  Above sums = AllByRecursion (λ n. 0 < n) (values_of sums)

  abbrev AreIn : List (K × ℕ) → Type 0
  AreIn sums = IsStrictlySortedBy cmp (keys_of sums) × Above sums

  are-with : (sums : List (K × ℕ)) (key : K) (n : ℕ) → AreIn sums → AreIn (with_amount cmp sums key n)
  are-with sums key n are = elim (cases_Bool (nat_eq n 0)) [
    | inl none ↦ rw none are
    | inr some ↦ rw some (sorted-merge order counts_added sums key n are.0, above-merge cmp sums key n (positive n some) are.1)
  ]

  are-all : (sums amounts : List (K × ℕ)) → AreIn sums → AreIn (fold (λ s (a : K × ℕ). with_amount cmp s a.0 a.1) sums amounts)
  are-all sums [] are = are
  are-all sums (a ∷ amounts) are = are-all (with_amount cmp sums a.0 a.1) amounts (are-with sums a.0 a.1 are)

  are-by : (amounts : List (K × ℕ)) → AreIn (amounts_by cmp amounts)
  unfolding IsStrictlySortedBy
  are-by amounts = are-all [] amounts (tt, tt)

  -- amounts with the same sums for every test are the same when they are added up
  pub same_amounts : TellsApart cmp → (xs ys : List (K × ℕ)) → ((passes : K → Bool) → sum_where passes (λ n. n) xs ≡ sum_where passes (λ n. n) ys) → amounts_by cmp xs ≡ amounts_by cmp ys
  same_amounts exact xs ys same =
      let x = are-by xs in
      let y = are-by ys in
      same_sums order exact (amounts_by cmp xs) (amounts_by cmp ys) x.0 y.0 x.1 y.1
      (λ passes. sum-by exact passes xs ∙ same passes ∙ sym (sum-by exact passes ys))
