-- Cells that sum to records, column by column, sum to their costs by key.
use Rattle.std.proofs.Common.{◌≡◌, ℕ, zero, suc, ◌+◌, ◌*◌, Bool, true, false, ◌&&◌, ◌==◌, if◌then◌else◌, List, [], ◌∷◌, map, slice_index, refl, sym, ap, ap₂, ◌∙◌, arith}
use Rattle.std.proofs.Math.Nat.{add-zero, zero-add}
use Rattle.std.proofs.Math.Nat.{mul-add, mul-zero}
use Rattle.std.proofs.Math.Dec.{eqb-suc-zero, eqb-zero-suc, eqb-suc-suc}
use Rattle.std.proofs.lemmas.List.Sums.{sum_by-cons}
use Rattle.std.specs.List.{zip}
use Rattle.cg_formulas.specs.Formulas.{product, weighed}
use Rattle.profile_records.specs.Records.{Record, Own, Called}
use Rattle.cost_rows.specs.KeySums.{rows_of, sums_by, cost_where}
use Rattle.cost_rows.specs.Keys.{part_of, place_of_row}
use Rattle.cost_rows.specs.Sums.{Spot, spot_of, self_sum}
use Rattle.cost_rows.specs.WalkSums.{rows_cost}
use Rattle.cost_rows.specs.declared.keys.Key.{Key}
use Rattle.cost_rows.specs.declared.rows.CellRow.{CellRow}
use Rattle.report_texts.specs.Costs.{EventRecords, EventCells, StandForEach, costs_of, all_costs, costs_by, weighted, all_rows}
use Rattle.cost_reports.proofs.KeyLemmas.{same_by_key, where_append, rows_append}

-- ---- costs of columns, each as often as it counts

pub value : List ℕ → (ℕ → ℕ) → ℕ
value [] cost = 0
value (times ∷ coefs) cost = times * cost 0 + value coefs (λ k. cost (suc k))

pub value_same : (coefs : List ℕ) (f g : ℕ → ℕ) → ((k : ℕ) → f k ≡ g k) → value coefs f ≡ value coefs g
unfolding value
value_same [] f g e = refl
value_same (times ∷ coefs) f g e = ap₂ ◌+◌ (ap (λ n. times * n) (e 0)) (value_same coefs (λ k. f (suc k)) (λ k. g (suc k)) (λ k. e (suc k)))

pub swap_sums : (a b c d : ℕ) → (a + b) + (c + d) ≡ (a + c) + (b + d)
swap_sums a b c d = omega arith

pub value_sum : (coefs : List ℕ) (f g : ℕ → ℕ) → value coefs (λ k. f k + g k) ≡ value coefs f + value coefs g
unfolding value
value_sum [] f g = refl
value_sum (times ∷ coefs) f g =
    ap₂ ◌+◌ (mul-add times (f 0) (g 0)) (value_sum coefs (λ k. f (suc k)) (λ k. g (suc k)))
    ∙ swap_sums (times * f 0) (times * g 0) (value coefs (λ k. f (suc k))) (value coefs (λ k. g (suc k)))

pub value_none : (coefs : List ℕ) → value coefs (λ _. 0) ≡ 0
unfolding value
value_none [] = refl
value_none (times ∷ coefs) = ap₂ ◌+◌ (mul-zero times) (value_none coefs)

-- past the last cost there is none
pub value_weighed : (coefs costs : List ℕ) → weighed coefs costs ≡ value coefs (λ k. slice_index costs k)
unfolding value
value_weighed [] costs = refl
value_weighed (times ∷ coefs) [] = sym (value_none (times ∷ coefs))
value_weighed (times ∷ coefs) (cost ∷ costs) = sum_by-cons product (times, cost) (zip coefs costs) ∙ ap (λ n. times * cost + n) (value_weighed coefs costs)

-- ---- one row, and one record

none_counts : (n : ℕ) → 0 ≡ 0 * n
none_counts n = omega arith

one_row : (coefs : List ℕ) (event cost : ℕ) → value coefs (λ k. if event == k then cost else 0) ≡ slice_index coefs event * cost
unfolding value
one_row [] event cost = none_counts cost
one_row (times ∷ coefs) zero cost =
    ap (λ n. times * cost + n) (value_same coefs (λ k. if zero == suc k then cost else 0) (λ _. 0) (λ k. ap (λ b. if b then cost else 0) (eqb-zero-suc k)) ∙ value_none coefs)
    ∙ add-zero (times * cost)
one_row (times ∷ coefs) (suc event) cost =
    ap₂ ◌+◌ (ap (λ b. times * (if b then cost else 0)) (eqb-suc-zero event) ∙ mul-zero times)
    (value_same coefs (λ k. if suc event == suc k then cost else 0) (λ k. if event == k then cost else 0) (λ k. ap (λ b. if b then cost else 0) (eqb-suc-suc event k)) ∙ one_row coefs event cost)
    ∙ zero-add (slice_index coefs event * cost)

row_where : (b : Bool) (coefs : List ℕ) (event cost : ℕ) → (if b then slice_index coefs event * cost else 0) ≡ value coefs (λ k. if b && (event == k) then cost else 0)
row_where true coefs event cost = sym (one_row coefs event cost)
row_where false coefs event cost = sym (value_none coefs)

pub record_where : (b : Bool) (coefs costs : List ℕ) → (if b then weighed coefs costs else 0) ≡ value coefs (λ k. if b then slice_index costs k else 0)
record_where true coefs costs = value_weighed coefs costs
record_where false coefs costs = sym (value_none coefs)

-- ---- of a run, and of a file

module _ (key : Key) (passes : Spot → Bool) where
  abbrev tests : Spot → Bool
  tests p = passes (part_of key p)

  rows_value : (coefs : List ℕ) (cells : List (CellRow (List ℕ))) → cost_where key passes (map (weighted coefs) cells) ≡ value coefs (λ k. rows_cost tests k cells)
  rows_value coefs [] = sym (value_none coefs)
  rows_value coefs (r ∷ cells) =
      ap₂ ◌+◌ (row_where (tests (place_of_row r)) coefs r.event r.cost) (rows_value coefs cells)
      ∙ sym (value_sum coefs (λ k. if tests (place_of_row r) && (r.event == k) then r.cost else 0) (λ k. rows_cost tests k cells))

  records_value : (coefs : List ℕ) (records : List Record) → cost_where key passes (rows_of (costs_of coefs records)) ≡ value coefs (λ k. self_sum tests k records)
  records_value coefs [] = sym (value_none coefs)
  records_value coefs (Own cost ∷ records) =
      ap₂ ◌+◌ (record_where (tests (spot_of cost)) coefs cost.costs) (records_value coefs records)
      ∙ sym (value_sum coefs (λ k. if tests (spot_of cost) then slice_index cost.costs k else 0) (λ k. self_sum tests k records))
  records_value coefs (Called callee cost ∷ records) = records_value coefs records

  pub same_costs : (files : List EventRecords) (runs : List EventCells) → StandForEach files runs → cost_where key passes (all_rows runs) ≡ cost_where key passes (rows_of (all_costs files))
  same_costs [] [] stand = refl
  same_costs [] (r ∷ runs) stand = absurd stand
  same_costs (f ∷ files) [] stand = absurd stand
  same_costs (f ∷ files) (r ∷ runs) stand =
      where_append key passes (map (weighted r.coefs) r.cells) (all_rows runs)
      ∙ ap₂ ◌+◌
      (rows_value r.coefs r.cells ∙ value_same r.coefs (λ k. rows_cost tests k r.cells) (λ k. self_sum tests k f.records) (λ k. stand.0.cells tests k) ∙ ap (λ coefs. value coefs (λ k. self_sum tests k f.records)) stand.0.coefs ∙ sym (records_value f.coefs f.records))
      (same_costs files runs stand.1)
      ∙ sym (where_append key passes (rows_of (costs_of f.coefs f.records)) (rows_of (all_costs files)))
      ∙ ap (cost_where key passes) (sym (rows_append (costs_of f.coefs f.records) (all_costs files)))

-- what the cells of runs sum to by key is what the records sum to
pub cells_are_records : (key : Key) (files : List EventRecords) (runs : List EventCells) → StandForEach files runs → sums_by key (all_rows runs) ≡ costs_by key files
cells_are_records key files runs stand = same_by_key key (all_rows runs) (rows_of (all_costs files)) (λ passes. same_costs key passes files runs stand)
