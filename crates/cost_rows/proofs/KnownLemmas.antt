-- Rows whose costs sum to those of records are at the places where records cost something.
use Rattle.std.proofs.Common.{zero, suc, ◌≡◌, ℕ, ◌+◌, ◌<◌, Bool, true, false, ◌&&◌, ◌||◌, ◌==◌, nat_lt, if◌then◌else◌, List, [], ◌∷◌, slice_index, refl, sym, subst, arith}
use Rattle.std.specs.List.{list_any}
use Rattle.std.proofs.lemmas.Bool.{and_from, eq-eqb, lt-ltb, ltb-true, or_left, or_right}
use Rattle.profile_records.specs.Records.{Record, Own, Called}
use Rattle.cost_rows.specs.Keys.{place_of_row}
use Rattle.cost_rows.specs.Sums.{Spot, spot_of, costs_at, self_sum}
use Rattle.cost_rows.specs.Walks.{HaveCosts}
use Rattle.cost_rows.specs.WalkSums.{rows_cost}
use Rattle.cost_rows.specs.declared.rows.CellRow.{CellRow}

pub same_tests : (a b : Bool) → (a ≡ true → b ≡ true) → (b ≡ true → a ≡ true) → a ≡ b
same_tests true b there back = sym (there refl)
same_tests false true there back = back refl
same_tests false false there back = refl

-- ---- costs above 0

some_cost : (costs : List ℕ) → list_any (nat_lt 0) costs ≡ true → (k : ℕ) × (0 < slice_index costs k)
some_cost [] is = absurd cc
some_cost (cost ∷ costs) is = go (nat_lt 0 cost) refl is (some_cost costs)
  where
    go : (b : Bool) → nat_lt 0 cost ≡ b → b || list_any (nat_lt 0) costs ≡ true → (list_any (nat_lt 0) costs ≡ true → (k : ℕ) × (0 < slice_index costs k)) → (k : ℕ) × (0 < slice_index (cost ∷ costs) k)
    go true here any rest = (0, ltb-true 0 cost here)
    go false here any rest = let later = rest any in (suc later.0, later.1)

cost_there : (costs : List ℕ) (k : ℕ) → 0 < slice_index costs k → list_any (nat_lt 0) costs ≡ true
cost_there [] k low = absurd (let n : ℕ = 0 in omega (arith, low))
cost_there (cost ∷ costs) zero low = or_left (nat_lt 0 cost) (list_any (nat_lt 0) costs) (lt-ltb 0 cost low)
cost_there (cost ∷ costs) (suc k) low = or_right (nat_lt 0 cost) (list_any (nat_lt 0) costs) (cost_there costs k low)

module _ (passes : Spot → Bool) where
  abbrev in_row : CellRow (List ℕ) → Bool
  in_row r = passes (place_of_row r)

  self_positive : (k : ℕ) (records : List Record) → 0 < self_sum passes k records → list_any (costs_at passes) records ≡ true
  self_positive k [] low = absurd (omega (arith, low))
  self_positive k (Own cost ∷ records) low = go (passes (spot_of cost)) (slice_index cost.costs k) refl (cost_there cost.costs k) low (self_positive k records)
    where
      go : (b : Bool) (n : ℕ) → passes (spot_of cost) ≡ b → (0 < n → list_any (nat_lt 0) cost.costs ≡ true) → 0 < (if b then n else 0) + self_sum passes k records
          → (0 < self_sum passes k records → list_any (costs_at passes) records ≡ true) → costs_at passes (Own cost) || list_any (costs_at passes) records ≡ true
      go true zero here any low rest = or_right _ _ (rest (omega (arith, low)))
      go true (suc n) here any low rest = or_left _ _ (and_from _ _ here (any (omega arith)))
      go false n here any low rest = or_right _ _ (rest (omega (arith, low)))
  self_positive k (Called callee cost ∷ records) low = self_positive k records low

  self_there : (records : List Record) → list_any (costs_at passes) records ≡ true → (k : ℕ) × (0 < self_sum passes k records)
  self_there [] is = absurd cc
  self_there (Own cost ∷ records) is = go (passes (spot_of cost)) (list_any (nat_lt 0) cost.costs) refl is (some_cost cost.costs) (self_there records)
    where
      go : (a b : Bool) → passes (spot_of cost) ≡ a → (a && b) || list_any (costs_at passes) records ≡ true → (b ≡ true → (k : ℕ) × (0 < slice_index cost.costs k)) → (list_any (costs_at passes) records ≡ true → (k : ℕ) × (0 < self_sum passes k records))
          → (k : ℕ) × (0 < self_sum passes k (Own cost ∷ records))
      go true true here any some rest =
          let column = some refl in
          let low = column.1 in
          (column.0, subst (λ b. 0 < (if b then slice_index cost.costs column.0 else 0) + self_sum passes column.0 records) (sym here) (omega (arith, low)))
      go true false here any some rest = let later = rest any in let low = later.1 in (later.0, omega (arith, low))
      go false b here any some rest = let later = rest any in let low = later.1 in (later.0, omega (arith, low))
  self_there (Called callee cost ∷ records) is = self_there records is

  -- ---- cells

  cells_positive : (k : ℕ) (cells : List (CellRow (List ℕ))) → 0 < rows_cost passes k cells → list_any in_row cells ≡ true
  cells_positive k [] low = absurd (omega (arith, low))
  cells_positive k (r ∷ cells) low = go (passes (place_of_row r)) (r.event == k) low (cells_positive k cells)
    where
      go : (a b : Bool) → 0 < (if a && b then r.cost else 0) + rows_cost passes k cells → (0 < rows_cost passes k cells → list_any in_row cells ≡ true) → a || list_any in_row cells ≡ true
      go true b low rest = refl
      go false b low rest = rest (omega (arith, low))

  cell_there : (cells : List (CellRow (List ℕ))) → HaveCosts cells → list_any in_row cells ≡ true → (k : ℕ) × (0 < rows_cost passes k cells)
  cell_there [] above is = absurd cc
  cell_there (r ∷ cells) above is = go (passes (place_of_row r)) refl is (cell_there cells above.1)
    where
      low : 0 < r.cost
      low = above.0

      go : (b : Bool) → passes (place_of_row r) ≡ b → b || list_any in_row cells ≡ true → (list_any in_row cells ≡ true → (k : ℕ) × (0 < rows_cost passes k cells)) → (k : ℕ) × (0 < rows_cost passes k (r ∷ cells))
      go true here any rest = (r.event, subst (λ b. 0 < (if b then r.cost else 0) + rows_cost passes r.event cells) (sym (and_from _ _ here (eq-eqb r.event r.event refl))) (omega (arith, low)))
      go false here any rest = let later = rest any in let some = later.1 in (later.0, omega (arith, some))

  -- for a test of places
  pub cells_know : (cells : List (CellRow (List ℕ))) (records : List Record) → HaveCosts cells → ((test : Spot → Bool) (k : ℕ) → rows_cost test k cells ≡ self_sum test k records)
      → list_any in_row cells ≡ list_any (costs_at passes) records
  cells_know cells records above same = same_tests _ _
      (λ is. let there = cell_there cells above is in self_positive there.0 records (subst (λ n. 0 < n) (same passes there.0) there.1))
      (λ is. let there = self_there records is in cells_positive there.0 cells (subst (λ n. 0 < n) (sym (same passes there.0)) there.1))
