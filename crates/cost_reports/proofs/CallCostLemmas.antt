-- Rows of calls that sum to records, column by column, sum to their callers and callees.
use Rattle.std.proofs.Common.{◌≡◌, ℕ, zero, suc, ◌+◌, Bool, true, false, ◌&&◌, ◌||◌, if◌then◌else◌, List, [], ◌∷◌, ◌++◌, map, slice_index, refl, sym, ap, ap₂, ◌∙◌, arith}
use Rattle.std.proofs.Math.Bool.{or_assoc}
use Rattle.std.proofs.Math.Nat.{zero-add}
use Rattle.std.specs.List.{list_any}
use Rattle.std.specs.Map.{keys_of}
use Rattle.cg_formulas.specs.Formulas.{weighed}
use Rattle.profile_records.specs.Records.{Record, Own, Called}
use Rattle.cost_rows.specs.Merging.{sum_where}
use Rattle.cost_rows.specs.Sums.{Spot, caller_spot, callee_spot, call_sum, count_sum, has_call}
use Rattle.cost_rows.specs.WalkSums.{caller_of_row, callee_of_row, calls_cost, calls_count, has_calls}
use Rattle.cost_rows.specs.declared.rows.ArcRow.{ArcRow}
use Rattle.cost_rows.proofs.KeysLemmas.{named_cmp-total, named_cmp-apart}
use Rattle.report_texts.specs.Calls.{Calls, CallsRepresent, CallsRepresentEach, EventEdges, all_edges, all_calls, asked, other, calls_at, calls_by, calls_of, weighted_calls}
use Rattle.report_texts.specs.Costs.{EventRecords}
use Rattle.report_texts.specs.Functions.{function_spot, is_one_function}
use Rattle.report_texts.specs.declared.call_sides.CallSide.{CallSide}
use Rattle.report_texts.specs.declared.call_sides.CallSide.TheVariants.{Callers, Callees}
use Rattle.report_texts.specs.declared.pairs.Pair.{Pair}
use Rattle.cost_reports.proofs.CostLemmas.{value, value_same, value_sum, value_none, record_where}
use Rattle.cost_reports.proofs.PairLemmas.{pair, measure, told, firsts_by, seconds_by, keys_by, sorted_by}
use Rattle.cost_reports.proofs.SameSums.{same_merged}

abbrev between : Spot → Spot → Calls
between caller callee = record { caller = function_spot caller.object caller.function; callee = function_spot callee.object callee.function; sum = pair 0 0 }

module _ (side : CallSide) (f : Spot) (passes : Spot → Bool) where
  -- calls of the function whose other side passes
  abbrev tests : Spot → Spot → Bool
  tests caller callee = is_one_function f (asked side (between caller callee)) && passes (other side (between caller callee))

  -- ---- calls one by one

  abbrev chosen : Calls → Bool
  chosen c = is_one_function f (asked side c) && passes (other side c)

  abbrev sum_chosen : (Pair → ℕ) → List Calls → ℕ
  sum_chosen m [] = 0
  sum_chosen m (c ∷ calls) = (if chosen c then m c.sum else 0) + sum_chosen m calls

  abbrev any_chosen : List Calls → Bool
  any_chosen [] = false
  any_chosen (c ∷ calls) = chosen c || any_chosen calls

  sum_at : (m : Pair → ℕ) (calls : List Calls) → sum_where passes m (calls_at side f calls) ≡ sum_chosen m calls
  sum_at m [] = refl
  sum_at m (c ∷ calls) = go (is_one_function f (asked side c)) (sum_at m calls)
    where
      go : (b : Bool) → sum_where passes m (calls_at side f calls) ≡ sum_chosen m calls
          → sum_where passes m (if b then (other side c, c.sum) ∷ calls_at side f calls else calls_at side f calls) ≡ (if b && passes (other side c) then m c.sum else 0) + sum_chosen m calls
      go true rest = ap (λ n. (if passes (other side c) then m c.sum else 0) + n) rest
      go false rest = rest ∙ sym (zero-add (sum_chosen m calls))

  any_at : (calls : List Calls) → list_any passes (keys_of (calls_at side f calls)) ≡ any_chosen calls
  any_at [] = refl
  any_at (c ∷ calls) = go (is_one_function f (asked side c)) (any_at calls)
    where
      go : (b : Bool) → list_any passes (keys_of (calls_at side f calls)) ≡ any_chosen calls
          → list_any passes (keys_of (if b then (other side c, c.sum) ∷ calls_at side f calls else calls_at side f calls)) ≡ ((b && passes (other side c)) || any_chosen calls)
      go true rest = ap (λ b. passes (other side c) || b) rest
      go false rest = rest

  sum_append : (m : Pair → ℕ) (xs ys : List Calls) → sum_chosen m (xs ++ ys) ≡ sum_chosen m xs + sum_chosen m ys
  sum_append m [] ys = sym (zero-add (sum_chosen m ys))
  sum_append m (x ∷ xs) ys = let rest = sum_append m xs ys in omega (arith, rest)

  any_append : (xs ys : List Calls) → any_chosen (xs ++ ys) ≡ (any_chosen xs || any_chosen ys)
  any_append [] ys = refl
  any_append (x ∷ xs) ys = ap (λ b. chosen x || b) (any_append xs ys) ∙ sym (or_assoc (chosen x) (any_chosen xs) (any_chosen ys))

  -- ---- rows and records

  abbrev first : Pair → ℕ
  first p = p.first

  abbrev second : Pair → ℕ
  second p = p.second

  chosen_sides : (caller callee : Spot) (sum : Pair) (s : CallSide) → s ≡ side
      → chosen (record { caller = function_spot caller.object caller.function; callee = function_spot callee.object callee.function; sum = sum }) ≡ tests caller callee
  chosen_sides caller callee sum Callers is = rw (sym is) refl
  chosen_sides caller callee sum Callees is = rw (sym is) refl

  chosen_is : (caller callee : Spot) (sum : Pair)
      → chosen (record { caller = function_spot caller.object caller.function; callee = function_spot callee.object callee.function; sum = sum }) ≡ tests caller callee
  chosen_is caller callee sum = chosen_sides caller callee sum side refl

  rows_value : (coefs : List ℕ) (edges : List (ArcRow (List ℕ) (List ℕ))) → sum_chosen first (map (weighted_calls coefs) edges) ≡ value coefs (λ k. calls_cost tests k edges)
  rows_value coefs [] = sym (value_none coefs)
  rows_value coefs (r ∷ edges) =
      ap₂ ◌+◌
      (ap (λ b. if b then weighed coefs r.costs else 0) (chosen_is (caller_of_row r) (callee_of_row r) (weighted_calls coefs r).sum)
      ∙ record_where (tests (caller_of_row r) (callee_of_row r)) coefs r.costs)
      (rows_value coefs edges)
      ∙ sym (value_sum coefs (λ k. if tests (caller_of_row r) (callee_of_row r) then slice_index r.costs k else 0) (λ k. calls_cost tests k edges))

  records_value : (coefs : List ℕ) (records : List Record) → sum_chosen first (calls_of coefs records) ≡ value coefs (λ k. call_sum tests k records)
  records_value coefs [] = sym (value_none coefs)
  records_value coefs (Own cost ∷ records) = records_value coefs records
  records_value coefs (Called callee cost ∷ records) =
      ap₂ ◌+◌
      (ap (λ b. if b then weighed coefs cost.costs else 0) (chosen_is (caller_spot cost) (callee_spot callee) (pair (weighed coefs cost.costs) callee.count))
      ∙ record_where (tests (caller_spot cost) (callee_spot callee)) coefs cost.costs)
      (records_value coefs records)
      ∙ sym (value_sum coefs (λ k. if tests (caller_spot cost) (callee_spot callee) then slice_index cost.costs k else 0) (λ k. call_sum tests k records))

  rows_count : (coefs : List ℕ) (edges : List (ArcRow (List ℕ) (List ℕ))) → sum_chosen second (map (weighted_calls coefs) edges) ≡ calls_count tests edges
  rows_count coefs [] = refl
  rows_count coefs (r ∷ edges) =
      ap₂ ◌+◌ (ap (λ b. if b then r.count else 0) (chosen_is (caller_of_row r) (callee_of_row r) (weighted_calls coefs r).sum)) (rows_count coefs edges)

  records_count : (coefs : List ℕ) (records : List Record) → sum_chosen second (calls_of coefs records) ≡ count_sum tests records
  records_count coefs [] = refl
  records_count coefs (Own cost ∷ records) = records_count coefs records
  records_count coefs (Called callee cost ∷ records) =
      ap₂ ◌+◌ (ap (λ b. if b then callee.count else 0) (chosen_is (caller_spot cost) (callee_spot callee) (pair (weighed coefs cost.costs) callee.count))) (records_count coefs records)

  rows_any : (coefs : List ℕ) (edges : List (ArcRow (List ℕ) (List ℕ))) → any_chosen (map (weighted_calls coefs) edges) ≡ has_calls tests edges
  rows_any coefs [] = refl
  rows_any coefs (r ∷ edges) = ap₂ ◌||◌ (chosen_is (caller_of_row r) (callee_of_row r) (weighted_calls coefs r).sum) (rows_any coefs edges)

  records_any : (coefs : List ℕ) (records : List Record) → any_chosen (calls_of coefs records) ≡ has_call tests records
  records_any coefs [] = refl
  records_any coefs (Own cost ∷ records) = records_any coefs records
  records_any coefs (Called callee cost ∷ records) =
      ap₂ ◌||◌ (chosen_is (caller_spot cost) (callee_spot callee) (pair (weighed coefs cost.costs) callee.count)) (records_any coefs records)

  -- ---- run by run

  one_cost : (e : EventRecords) (r : EventEdges) → CallsRepresent e r → sum_chosen first (map (weighted_calls r.coefs) r.calls) ≡ sum_chosen first (calls_of e.coefs e.records)
  one_cost e r stand =
      rows_value r.coefs r.calls
      ∙ value_same r.coefs (λ k. calls_cost tests k r.calls) (λ k. call_sum tests k e.records) (λ k. stand.costs tests k)
      ∙ ap (λ coefs. value coefs (λ k. call_sum tests k e.records)) stand.coefs
      ∙ sym (records_value e.coefs e.records)

  one_count : (e : EventRecords) (r : EventEdges) → CallsRepresent e r → sum_chosen second (map (weighted_calls r.coefs) r.calls) ≡ sum_chosen second (calls_of e.coefs e.records)
  one_count e r stand = rows_count r.coefs r.calls ∙ stand.counts tests ∙ sym (records_count e.coefs e.records)

  one_any : (e : EventRecords) (r : EventEdges) → CallsRepresent e r → any_chosen (map (weighted_calls r.coefs) r.calls) ≡ any_chosen (calls_of e.coefs e.records)
  one_any e r stand = rows_any r.coefs r.calls ∙ stand.called tests ∙ sym (records_any e.coefs e.records)

  all_sums : (m : Pair → ℕ) → ((e : EventRecords) (r : EventEdges) → CallsRepresent e r → sum_chosen m (map (weighted_calls r.coefs) r.calls) ≡ sum_chosen m (calls_of e.coefs e.records))
      → (files : List EventRecords) (runs : List EventEdges) → CallsRepresentEach files runs → sum_chosen m (all_edges runs) ≡ sum_chosen m (all_calls files)
  all_sums m one [] [] stand = refl
  all_sums m one [] (r ∷ runs) stand = absurd stand
  all_sums m one (e ∷ files) [] stand = absurd stand
  all_sums m one (e ∷ files) (r ∷ runs) stand =
      sum_append m (map (weighted_calls r.coefs) r.calls) (all_edges runs)
      ∙ ap₂ ◌+◌ (one e r stand.0) (all_sums m one files runs stand.1)
      ∙ sym (sum_append m (calls_of e.coefs e.records) (all_calls files))

  any_same : (files : List EventRecords) (runs : List EventEdges) → CallsRepresentEach files runs → any_chosen (all_edges runs) ≡ any_chosen (all_calls files)
  any_same [] [] stand = refl
  any_same [] (r ∷ runs) stand = absurd stand
  any_same (e ∷ files) [] stand = absurd stand
  any_same (e ∷ files) (r ∷ runs) stand =
      any_append (map (weighted_calls r.coefs) r.calls) (all_edges runs)
      ∙ ap₂ ◌||◌ (one_any e r stand.0) (any_same files runs stand.1)
      ∙ sym (any_append (calls_of e.coefs e.records) (all_calls files))

  pub same_firsts : (files : List EventRecords) (runs : List EventEdges) → CallsRepresentEach files runs
      → sum_where passes (λ (p : Pair). p.first) (calls_by side f (all_edges runs)) ≡ sum_where passes (λ (p : Pair). p.first) (calls_by side f (all_calls files))
  same_firsts files runs stand =
      firsts_by passes (calls_at side f (all_edges runs)) ∙ sum_at first (all_edges runs) ∙ all_sums first one_cost files runs stand
      ∙ sym (sum_at first (all_calls files)) ∙ sym (firsts_by passes (calls_at side f (all_calls files)))

  pub same_seconds : (files : List EventRecords) (runs : List EventEdges) → CallsRepresentEach files runs
      → sum_where passes (λ (p : Pair). p.second) (calls_by side f (all_edges runs)) ≡ sum_where passes (λ (p : Pair). p.second) (calls_by side f (all_calls files))
  same_seconds files runs stand =
      seconds_by passes (calls_at side f (all_edges runs)) ∙ sum_at second (all_edges runs) ∙ all_sums second one_count files runs stand
      ∙ sym (sum_at second (all_calls files)) ∙ sym (seconds_by passes (calls_at side f (all_calls files)))

  pub same_keys : (files : List EventRecords) (runs : List EventEdges) → CallsRepresentEach files runs
      → list_any passes (keys_of (calls_by side f (all_edges runs))) ≡ list_any passes (keys_of (calls_by side f (all_calls files)))
  same_keys files runs stand =
      keys_by passes (calls_at side f (all_edges runs)) ∙ any_at (all_edges runs) ∙ any_same files runs stand
      ∙ sym (any_at (all_calls files)) ∙ sym (keys_by passes (calls_at side f (all_calls files)))

-- the callers and callees of rows are those of the records
pub calls_are_records : (side : CallSide) (f : Spot) (files : List EventRecords) (runs : List EventEdges) → CallsRepresentEach files runs → calls_by side f (all_edges runs) ≡ calls_by side f (all_calls files)
calls_are_records side f files runs stand =
    same_merged named_cmp-total named_cmp-apart measure told (calls_by side f (all_edges runs)) (calls_by side f (all_calls files))
    (sorted_by (calls_at side f (all_edges runs))) (sorted_by (calls_at side f (all_calls files)))
    (λ passes. same_keys side f passes files runs stand) sums
  where
    sums : (i : ℕ) (passes : Spot → Bool) → sum_where passes (measure i) (calls_by side f (all_edges runs)) ≡ sum_where passes (measure i) (calls_by side f (all_calls files))
    sums zero passes = same_firsts side f passes files runs stand
    sums (suc i) passes = same_seconds side f passes files runs stand
