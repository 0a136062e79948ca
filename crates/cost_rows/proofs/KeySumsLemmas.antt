-- What rows of many files add up to.
use Rattle.std.proofs.Common.{inl, inr, ◌≡◌, ℕ, ◌+◌, Bool, true, List, [], ◌∷◌, fold, nat_eq, if◌then◌else◌, refl, ap, ◌∙◌, add_assoc, arith}
use Rattle.std.proofs.lemmas.Bool.{cases_Bool, ne_eqb}
use Rattle.cost_rows.specs.Sums.{Spot}
use Rattle.cost_rows.specs.Keys.{named_cmp, part_of, place_of_row}
use Rattle.cost_rows.specs.Merging.{merge, sum_where}
use Rattle.cost_rows.specs.Stacks.{counts_added}
use Rattle.cost_rows.specs.KeySums.{AreSums, Sums, sums_with, with_row, total_of, cost_where}
use Rattle.cost_rows.specs.declared.keys.Key.{Key}
use Rattle.cost_rows.specs.declared.rows.CellRow.{CellRow}
use Rattle.cost_rows.proofs.KeysLemmas.{named_cmp-total, named_cmp-apart}
use Rattle.cost_rows.proofs.MergeLemmas.{above-merge, nothing, positive, sum-merge, sorted-merge}

sum-row : (key : Key) (passes : Spot → Bool) (sums : List (Spot × ℕ)) (row : CellRow (List ℕ))
    → (sum_where passes (λ n. n) (with_row (record { key = key; sums = sums }) row).sums ≡ sum_where passes (λ n. n) sums + (if passes (part_of key (place_of_row row)) then row.cost else 0)) × ((with_row (record { key = key; sums = sums }) row).key ≡ key)
sum-row key passes sums row = elim (cases_Bool (nat_eq row.cost 0)) [
  | inl none ↦ rw none ((let e = nothing (passes (part_of key (place_of_row row))) row.cost none in omega (arith, e)), refl)
  | inr some ↦ rw some (sum-merge named_cmp-apart counts_added passes (λ n. n) (λ x y. refl) sums (part_of key (place_of_row row)) row.cost, refl)
]

pub sums-rows : (passes : Spot → Bool) (rows : List (CellRow (List ℕ))) (s : Sums) → sum_where passes (λ n. n) (fold with_row s rows).sums ≡ sum_where passes (λ n. n) s.sums + cost_where s.key passes rows
sums-rows passes [] s = let n : ℕ = sum_where passes (λ n. n) s.sums in let k : n ≡ n + 0 = omega arith in k
sums-rows passes (row ∷ rows) s =
    let one = sum-row s.key passes s.sums row in
    sums-rows passes rows (with_row s row)
    ∙ ap (λ n. n + cost_where (with_row s row).key passes rows) one.0
    ∙ ap (λ k. (sum_where passes (λ n. n) s.sums + (if passes (part_of s.key (place_of_row row)) then row.cost else 0)) + cost_where k passes rows) one.1
    ∙ add_assoc (sum_where passes (λ n. n) s.sums) (if passes (part_of s.key (place_of_row row)) then row.cost else 0) (cost_where s.key passes rows)

sums-row : (s : Sums) (row : CellRow (List ℕ)) → AreSums s.sums → AreSums (with_row s row).sums
sums-row s row are = elim (cases_Bool (nat_eq row.cost 0)) [
  | inl none ↦ rw none are
  | inr some ↦ rw some (record {
    order = sorted-merge named_cmp-total counts_added s.sums (part_of s.key (place_of_row row)) row.cost are.order;
    above = above-merge named_cmp s.sums (part_of s.key (place_of_row row)) row.cost (positive row.cost some) are.above;
  })
]

pub sums-are : (rows : List (CellRow (List ℕ))) (s : Sums) → AreSums s.sums → AreSums (fold with_row s rows).sums
sums-are [] s are = are
sums-are (row ∷ rows) s are = sums-are rows (with_row s row) (sums-row s row are)

-- the sum of all grows by what is merged
pub total-merge : (new old : List (Spot × ℕ)) (part : Spot) (cost : ℕ) → new ≡ merge named_cmp counts_added old part cost → total_of new ≡ total_of old + cost
total-merge new old part cost e = ap total_of e ∙ sum-merge named_cmp-apart counts_added (λ _. true) (λ n. n) (λ x y. refl) old part cost

-- a row's cost, added at its part
pub row-with : (s : Sums) (row : CellRow (List ℕ)) (new : List (Spot × ℕ)) → (row.cost ≡ 0 → ⊥) → new ≡ sums_with (part_of s.key (place_of_row row)) row.cost s.sums → record { key = s.key; sums = new } ≡ with_row s row
row-with s row new some is = rw (ne_eqb row.cost 0 some) (ap (λ sums. record { key = s.key; sums = sums }) is)
