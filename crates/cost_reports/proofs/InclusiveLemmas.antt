-- Rows that sum to records and stacks sum to their inclusive costs.
use Rattle.std.proofs.Common.{zero, suc, pred, ◌≡◌, ℕ, ◌+◌, ◌≤◌, Bool, true, false, not, ◌&&◌, nat_lt, if◌then◌else◌, List, [], ◌∷◌, ◌++◌, map, slice_index, refl, sym, ap, ap₂, ◌∙◌, arith}
use Rattle.std.proofs.Math.Nat.{zero-add}
use Rattle.std.specs.List.{AllByRecursion}
use Rattle.std.proofs.lemmas.Bool.{lt-ltb}
use Rattle.cg_text.specs.Names.{unknown}
use Rattle.profile_records.specs.Records.{Record, Own, Called}
use Rattle.profile_records.specs.Stacks.{Seen}
use Rattle.cost_rows.specs.KeySums.{cost_where, rows_of, total_of}
use Rattle.cost_rows.specs.Sums.{Spot, caller_spot, callee_spot, call_sum}
use Rattle.cost_rows.specs.StackSums.{frames_sum}
use Rattle.cost_rows.specs.WalkSums.{caller_of_row, callee_of_row, calls_cost, stacks_count}
use Rattle.cost_rows.specs.declared.keys.Key.TheVariants.{Function}
use Rattle.cost_rows.specs.declared.rows.ArcRow.{ArcRow}
use Rattle.cost_rows.specs.declared.rows.StackRow.{StackRow}
use Rattle.report_texts.specs.Calls.{Calls, CallsRepresentEach, EventEdges, all_edges, all_calls, calls_of, weighted_calls}
use Rattle.report_texts.specs.Costs.{EventCells, EventRecords, StandForEach, all_costs, all_rows}
use Rattle.report_texts.specs.Functions.{function_spot, is_one_function}
use Rattle.report_texts.specs.Inclusive.{SameStacks, frame_costs, functions_in, inclusive_costs, inclusive_rows, names_costs, outward_costs, row_costs, rows_count, count_of}
use Rattle.cost_reports.proofs.CostLemmas.{value, value_same, value_sum, value_none, record_where, cells_are_records, same_costs}
use Rattle.cost_reports.proofs.KeyLemmas.{same_by_key, total_by_key, total_of_rows, where_append, rows_append}

-- ---- stacks, each as often as it weighs

abbrev pub times : ℕ → ℕ → ℕ
times zero n = 0
times (suc k) n = n + times k n

abbrev test_sum : (List ℕ → Bool) → List (List ℕ × ℕ) → ℕ
test_sum test [] = 0
test_sum test (x ∷ xs) = (if test x.0 then x.1 else 0) + test_sum test xs

abbrev weight_sum : (List ℕ → ℕ) → List (List ℕ × ℕ) → ℕ
weight_sum weight [] = 0
weight_sum weight (x ∷ xs) = times (weight x.0) x.1 + weight_sum weight xs

abbrev AreWithin : ℕ → (List ℕ → ℕ) → List (List ℕ × ℕ) → Type 0
AreWithin most weight xs = AllByRecursion (λ (x : List ℕ × ℕ). weight x.0 ≤ most) xs

one_less : (k n : ℕ) → times k n ≡ (if nat_lt 0 k then n else 0) + times (pred k) n
one_less zero n = refl
one_less (suc k) n = rw (lt-ltb 0 (suc k) (omega arith)) refl

less_sum : (weight : List ℕ → ℕ) (xs : List (List ℕ × ℕ)) → weight_sum weight xs ≡ test_sum (λ s. nat_lt 0 (weight s)) xs + weight_sum (λ s. pred (weight s)) xs
less_sum weight [] = refl
less_sum weight (x ∷ xs) = let here = one_less (weight x.0) x.1 in let rest = less_sum weight xs in omega (arith, here, rest)

no_times : (k n : ℕ) → k ≤ 0 → times k n ≡ 0
no_times zero n none = refl
no_times (suc k) n none = absurd (omega (arith, none))

no_weight : (weight : List ℕ → ℕ) (xs : List (List ℕ × ℕ)) → AreWithin 0 weight xs → weight_sum weight xs ≡ 0
no_weight weight [] none = refl
no_weight weight (x ∷ xs) none = let here = no_times (weight x.0) x.1 none.0 in let rest = no_weight weight xs none.1 in omega (arith, here, rest)

pred_within : (k most : ℕ) → k ≤ suc most → pred k ≤ most
pred_within zero most within = omega arith
pred_within (suc k) most within = omega (arith, within)

within_less : (most : ℕ) (weight : List ℕ → ℕ) (xs : List (List ℕ × ℕ)) → AreWithin (suc most) weight xs → AreWithin most (λ s. pred (weight s)) xs
within_less most weight [] within = tt
within_less most weight (x ∷ xs) within = (pred_within (weight x.0) most within.0, within_less most weight xs within.1)

same_below : (most : ℕ) (weight : List ℕ → ℕ) (xs ys : List (List ℕ × ℕ)) → AreWithin most weight xs → AreWithin most weight ys
    → ((test : List ℕ → Bool) → test_sum test xs ≡ test_sum test ys) → weight_sum weight xs ≡ weight_sum weight ys
same_below zero weight xs ys low_x low_y same = no_weight weight xs low_x ∙ sym (no_weight weight ys low_y)
same_below (suc most) weight xs ys low_x low_y same =
    less_sum weight xs
    ∙ ap₂ ◌+◌ (same (λ s. nat_lt 0 (weight s))) (same_below most (λ s. pred (weight s)) xs ys (within_less most weight xs low_x) (within_less most weight ys low_y) same)
    ∙ sym (less_sum weight ys)

abbrev all_weights : (List ℕ → ℕ) → List (List ℕ × ℕ) → ℕ
all_weights weight [] = 0
all_weights weight (x ∷ xs) = weight x.0 + all_weights weight xs

within_all : (most : ℕ) (weight : List ℕ → ℕ) (xs : List (List ℕ × ℕ)) → all_weights weight xs ≤ most → AreWithin most weight xs
within_all most weight [] low = tt
within_all most weight (x ∷ xs) low = (omega (arith, low), within_all most weight xs (omega (arith, low)))

-- stacks that count the same for every test count the same by every weight
same_weights : (weight : List ℕ → ℕ) (xs ys : List (List ℕ × ℕ)) → ((test : List ℕ → Bool) → test_sum test xs ≡ test_sum test ys) → weight_sum weight xs ≡ weight_sum weight ys
same_weights weight xs ys same =
    let a = all_weights weight xs in
    let b = all_weights weight ys in
    same_below (a + b) weight xs ys (within_all (a + b) weight xs (omega arith)) (within_all (a + b) weight ys (omega arith)) same

-- ---- the functions of stacks

abbrev of_rows : List (StackRow (List ℕ)) → List (List ℕ × ℕ)
of_rows rows = map (λ (r : StackRow (List ℕ)). (r.stack, r.count)) rows

abbrev of_seen : List Seen → List (List ℕ × ℕ)
of_seen seen = map (λ (s : Seen). (s.stack.frames, s.stack.count)) seen

tests_of_rows : (test : List ℕ → Bool) (rows : List (StackRow (List ℕ))) → test_sum test (of_rows rows) ≡ stacks_count test rows
tests_of_rows test [] = refl
tests_of_rows test (r ∷ rows) = ap (λ n. (if test r.stack then r.count else 0) + n) (tests_of_rows test rows)

tests_of_seen : (test : List ℕ → Bool) (seen : List Seen) → test_sum test (of_seen seen) ≡ frames_sum test seen
tests_of_seen test [] = refl
tests_of_seen test (s ∷ seen) = ap (λ n. (if test s.stack.frames then s.stack.count else 0) + n) (tests_of_seen test seen)

same_tests : (rows : List (StackRow (List ℕ))) (seen : List Seen) → SameStacks rows seen → (test : List ℕ → Bool) → test_sum test (of_rows rows) ≡ test_sum test (of_seen seen)
same_tests rows seen same test = tests_of_rows test rows ∙ same test ∙ sym (tests_of_seen test seen)

counts_of_rows : (rows : List (StackRow (List ℕ))) → rows_count rows ≡ test_sum (λ _. true) (of_rows rows)
counts_of_rows [] = refl
counts_of_rows (r ∷ rows) = ap (λ n. r.count + n) (counts_of_rows rows)

counts_of_seen : (seen : List Seen) → count_of seen ≡ test_sum (λ _. true) (of_seen seen)
counts_of_seen [] = refl
counts_of_seen (s ∷ seen) = ap (λ n. s.stack.count + n) (counts_of_seen seen)

module _ (passes : Spot → Bool) where
  abbrev pub how_many : List (List ℕ) → ℕ
  how_many [] = 0
  how_many (name ∷ names) = (if passes (function_spot unknown name) then 1 else 0) + how_many names

  pub names_where : (count : ℕ) (names : List (List ℕ)) → cost_where Function passes (rows_of (names_costs count names)) ≡ times (how_many names) count
  names_where count [] = refl
  names_where count (name ∷ names) = go (passes (function_spot unknown name)) (names_where count names)
    where
      go : (b : Bool) → cost_where Function passes (rows_of (names_costs count names)) ≡ times (how_many names) count
          → (if b then count else 0) + cost_where Function passes (rows_of (names_costs count names)) ≡ times ((if b then 1 else 0) + how_many names) count
      go true rest = ap (λ n. count + n) rest ∙ ap (λ k. times k count) (let e : suc (how_many names) ≡ 1 + how_many names = omega arith in e)
      go false rest = zero-add (cost_where Function passes (rows_of (names_costs count names))) ∙ rest ∙ ap (λ k. times k count) (sym (zero-add (how_many names)))

  abbrev weight : List ℕ → ℕ
  weight frames = how_many (functions_in frames)

  rows_where : (rows : List (StackRow (List ℕ))) → cost_where Function passes (rows_of (row_costs rows)) ≡ weight_sum weight (of_rows rows)
  rows_where [] = refl
  rows_where (r ∷ rows) =
      ap (cost_where Function passes) (rows_append (names_costs r.count (functions_in r.stack)) (row_costs rows))
      ∙ where_append Function passes (rows_of (names_costs r.count (functions_in r.stack))) (rows_of (row_costs rows))
      ∙ ap₂ ◌+◌ (names_where r.count (functions_in r.stack)) (rows_where rows)

  seen_where : (seen : List Seen) → cost_where Function passes (rows_of (frame_costs seen)) ≡ weight_sum weight (of_seen seen)
  seen_where [] = refl
  seen_where (s ∷ seen) =
      ap (cost_where Function passes) (rows_append (names_costs s.stack.count (functions_in s.stack.frames)) (frame_costs seen))
      ∙ where_append Function passes (rows_of (names_costs s.stack.count (functions_in s.stack.frames))) (rows_of (frame_costs seen))
      ∙ ap₂ ◌+◌ (names_where s.stack.count (functions_in s.stack.frames)) (seen_where seen)

  same_frames : (rows : List (StackRow (List ℕ))) (seen : List Seen) → SameStacks rows seen
      → cost_where Function passes (rows_of (row_costs rows)) ≡ cost_where Function passes (rows_of (frame_costs seen))
  same_frames rows seen same = rows_where rows ∙ same_weights weight (of_rows rows) (of_seen seen) (same_tests rows seen same) ∙ sym (seen_where seen)

  -- ---- calls to another function

  abbrev outward : Spot → Spot → Bool
  outward caller callee =
      not (is_one_function (function_spot caller.object caller.function) (function_spot callee.object callee.function)) && passes (function_spot caller.object caller.function)

  abbrev outward_sum : List Calls → ℕ
  outward_sum [] = 0
  outward_sum (c ∷ calls) = (if not (is_one_function c.caller c.callee) && passes (function_spot c.caller.object c.caller.function) then c.sum.first else 0) + outward_sum calls

  outward_where : (calls : List Calls) → cost_where Function passes (rows_of (outward_costs calls)) ≡ outward_sum calls
  outward_where [] = refl
  outward_where (c ∷ calls) = go (is_one_function c.caller c.callee) (outward_where calls)
    where
      go : (b : Bool) → cost_where Function passes (rows_of (outward_costs calls)) ≡ outward_sum calls
          → cost_where Function passes (rows_of (if b then outward_costs calls else (c.caller, c.sum.first) ∷ outward_costs calls))
          ≡ (if not b && passes (function_spot c.caller.object c.caller.function) then c.sum.first else 0) + outward_sum calls
      go true rest = rest ∙ sym (zero-add (outward_sum calls))
      go false rest = ap (λ n. (if passes (function_spot c.caller.object c.caller.function) then c.sum.first else 0) + n) rest

  sum_append : (xs ys : List Calls) → outward_sum (xs ++ ys) ≡ outward_sum xs + outward_sum ys
  sum_append [] ys = sym (zero-add (outward_sum ys))
  sum_append (x ∷ xs) ys = let rest = sum_append xs ys in omega (arith, rest)

  edges_value : (coefs : List ℕ) (edges : List (ArcRow (List ℕ) (List ℕ))) → outward_sum (map (weighted_calls coefs) edges) ≡ value coefs (λ k. calls_cost outward k edges)
  edges_value coefs [] = sym (value_none coefs)
  edges_value coefs (r ∷ edges) =
      ap₂ ◌+◌ (record_where (outward (caller_of_row r) (callee_of_row r)) coefs r.costs) (edges_value coefs edges)
      ∙ sym (value_sum coefs (λ k. if outward (caller_of_row r) (callee_of_row r) then slice_index r.costs k else 0) (λ k. calls_cost outward k edges))

  calls_value : (coefs : List ℕ) (records : List Record) → outward_sum (calls_of coefs records) ≡ value coefs (λ k. call_sum outward k records)
  calls_value coefs [] = sym (value_none coefs)
  calls_value coefs (Own cost ∷ records) = calls_value coefs records
  calls_value coefs (Called callee cost ∷ records) =
      ap₂ ◌+◌ (record_where (outward (caller_spot cost) (callee_spot callee)) coefs cost.costs) (calls_value coefs records)
      ∙ sym (value_sum coefs (λ k. if outward (caller_spot cost) (callee_spot callee) then slice_index cost.costs k else 0) (λ k. call_sum outward k records))

  same_outward : (files : List EventRecords) (runs : List EventEdges) → CallsRepresentEach files runs → outward_sum (all_edges runs) ≡ outward_sum (all_calls files)
  same_outward [] [] stand = refl
  same_outward [] (r ∷ runs) stand = absurd stand
  same_outward (e ∷ files) [] stand = absurd stand
  same_outward (e ∷ files) (r ∷ runs) stand =
      sum_append (map (weighted_calls r.coefs) r.calls) (all_edges runs)
      ∙ ap₂ ◌+◌
      (edges_value r.coefs r.calls
      ∙ value_same r.coefs (λ k. calls_cost outward k r.calls) (λ k. call_sum outward k e.records) (λ k. stand.0.costs outward k)
      ∙ ap (λ coefs. value coefs (λ k. call_sum outward k e.records)) stand.0.coefs
      ∙ sym (calls_value e.coefs e.records))
      (same_outward files runs stand.1)
      ∙ sym (sum_append (calls_of e.coefs e.records) (all_calls files))

  -- ---- all together

  same_where : (files : List EventRecords) (cells : List EventCells) (edges : List EventEdges) (rows : List (StackRow (List ℕ))) (seen : List Seen)
      → StandForEach files cells → CallsRepresentEach files edges → SameStacks rows seen
      → cost_where Function passes (all_rows cells ++ rows_of (outward_costs (all_edges edges) ++ row_costs rows))
      ≡ cost_where Function passes (rows_of (all_costs files ++ (outward_costs (all_calls files) ++ frame_costs seen)))
  same_where files cells edges rows seen own calls stacks =
      where_append Function passes (all_rows cells) (rows_of (outward_costs (all_edges edges) ++ row_costs rows))
      ∙ ap₂ ◌+◌ (same_costs Function passes files cells own)
      (both (outward_costs (all_edges edges)) (row_costs rows)
      ∙ ap₂ ◌+◌ (outward_where (all_edges edges) ∙ same_outward files edges calls ∙ sym (outward_where (all_calls files))) (same_frames rows seen stacks)
      ∙ sym (both (outward_costs (all_calls files)) (frame_costs seen)))
      ∙ sym (both (all_costs files) (outward_costs (all_calls files) ++ frame_costs seen))
    where
      both : (xs ys : List (Spot × ℕ)) → cost_where Function passes (rows_of (xs ++ ys)) ≡ cost_where Function passes (rows_of xs) + cost_where Function passes (rows_of ys)
      both xs ys = ap (cost_where Function passes) (rows_append xs ys) ∙ where_append Function passes (rows_of xs) (rows_of ys)

-- the inclusive costs of rows are those of the records and the stacks
pub inclusive_are_records : (files : List EventRecords) (seen : List Seen) (cells : List EventCells) (edges : List EventEdges) (rows : List (StackRow (List ℕ)))
    → StandForEach files cells → CallsRepresentEach files edges → SameStacks rows seen → inclusive_rows (all_rows cells) (all_edges edges) rows ≡ inclusive_costs files seen
inclusive_are_records files seen cells edges rows own calls stacks =
    ap₂ (λ sums total. record { sums = sums; total = total })
    (same_by_key Function (all_rows cells ++ rows_of (outward_costs (all_edges edges) ++ row_costs rows)) (rows_of (all_costs files ++ (outward_costs (all_calls files) ++ frame_costs seen)))
    (λ passes. same_where passes files cells edges rows seen own calls stacks))
    (ap₂ ◌+◌ (sym (total_by_key Function (all_rows cells)) ∙ ap total_of (cells_are_records Function files cells own) ∙ total_of_rows Function (all_costs files))
    (counts_of_rows rows ∙ same_tests rows seen stacks (λ _. true) ∙ sym (counts_of_seen seen)))
