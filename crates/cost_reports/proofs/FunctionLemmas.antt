-- What the inclusive costs say of one function.
use Rattle.std.proofs.Common.{◌≡◌, ℕ, ◌+◌, Bool, true, false, not, ◌&&◌, ◌||◌, bytes_eq, if◌then◌else◌, List, [], ◌∷◌, ◌++◌, map, fold, refl, sym, ap, ap₂, subst, ◌∙◌, arith}
use Rattle.std.proofs.Math.Nat.{zero-add}
use Rattle.std.proofs.Math.Bool.{or-false}
use Rattle.std.specs.declared.cmp.Ordering.{Ordering}
use Rattle.std.specs.declared.cmp.Ordering.TheVariants.{Less, Equal, Greater}
use Rattle.std.specs.BTreeSet.{insert_key}
use Rattle.std.specs.List.{list_any, AllByRecursion}
use Rattle.std.specs.List.Sorted.{IsStrictlySortedBy}
use Rattle.std.specs.Map.{keys_of}
use Rattle.std.specs.Ordering.{match_ordering}
use Rattle.std.proofs.lemmas.Cmp.{tied_itself}
use Rattle.std.proofs.lemmas.Map.Keys.{sorted_head, sorted_tail}
use Rattle.cg_text.specs.Names.{unknown}
use Rattle.profile_records.specs.Frames.{functions_of}
use Rattle.profile_records.specs.Stacks.{Seen}
use Rattle.std.proofs.lemmas.Map.Lookups.{exact_bytes}
use Rattle.cost_rows.specs.KeySums.{cost_where, rows_of}
use Rattle.cost_rows.specs.Merging.{merge, merge_all, sum_where}
use Rattle.cost_rows.specs.Stacks.{bytes_cmp, counts_added}
use Rattle.cost_rows.specs.Sums.{Spot}
use Rattle.cost_rows.specs.declared.keys.Key.TheVariants.{Function}
use Rattle.cost_rows.proofs.MergeLemmas.{keys-merge_all, sorted-merge_all}
use Rattle.cost_rows.proofs.NamingLemmas.{same_bytes}
use Rattle.cost_rows.proofs.StacksLemmas.{bytes_cmp-total}
use Rattle.report_texts.specs.Calls.{Calls, all_calls}
use Rattle.report_texts.specs.Costs.{EventRecords, all_costs}
use Rattle.report_texts.specs.Functions.{function_spot, is_one_function}
use Rattle.report_texts.specs.Inclusive.{frame_costs, frame_count, functions_in, inclusive_cost, inclusive_costs, is_frame, names_costs, outward_cost, outward_costs, self_cost}
use Rattle.cost_reports.proofs.InclusiveLemmas.{how_many, names_where, times}
use Rattle.cost_reports.proofs.KeyLemmas.{rows_append, sums_cost, where_append}

-- ---- each function of a stack once

abbrev entries : List (List ℕ) → List (List ℕ × ℕ)
entries names = map (λ name. (name, 0)) names

key_step : (k : List ℕ) (e : List ℕ × ℕ) (es : List (List ℕ × ℕ)) (o : Ordering) → keys_of (merge bytes_cmp counts_added es k 0) ≡ insert_key bytes_cmp (keys_of es) k
    → keys_of (match_ordering o ((k, 0) ∷ e ∷ es) ((e.0, counts_added e.1 0) ∷ es) (e ∷ merge bytes_cmp counts_added es k 0))
    ≡ match_ordering o (k ∷ e.0 ∷ keys_of es) (e.0 ∷ keys_of es) (e.0 ∷ insert_key bytes_cmp (keys_of es) k)
key_step k e es Less rest = refl
key_step k e es Equal rest = refl
key_step k e es Greater rest = ap (λ ks. e.0 ∷ ks) rest

keys_insert : (es : List (List ℕ × ℕ)) (k : List ℕ) → keys_of (merge bytes_cmp counts_added es k 0) ≡ insert_key bytes_cmp (keys_of es) k
keys_insert [] k = refl
keys_insert (e ∷ es) k = key_step k e es (bytes_cmp k e.0) (keys_insert es k)

keys_fold : (names : List (List ℕ)) (es : List (List ℕ × ℕ)) → fold (insert_key bytes_cmp) (keys_of es) names ≡ keys_of (merge_all bytes_cmp counts_added es (entries names))
keys_fold [] es = refl
keys_fold (name ∷ names) es =
    ap (λ ks. fold (insert_key bytes_cmp) ks names) (sym (keys_insert es name)) ∙ keys_fold names (merge bytes_cmp counts_added es name 0)

keys_entries : (names : List (List ℕ)) → keys_of (entries names) ≡ names
keys_entries [] = refl
keys_entries (name ∷ names) = ap (λ ks. name ∷ ks) (keys_entries names)

any_in : (test : List ℕ → Bool) (frames : List ℕ) → list_any test (functions_in frames) ≡ list_any test (functions_of frames)
any_in test frames =
    let names = functions_of frames in
    ap (list_any test) (keys_fold names [])
    ∙ keys-merge_all exact_bytes counts_added test [] (entries names)
    ∙ or-false (list_any test (keys_of (entries names)))
    ∙ ap (list_any test) (keys_entries names)

sorted_in : (frames : List ℕ) → IsStrictlySortedBy bytes_cmp (functions_in frames)
unfolding IsStrictlySortedBy
sorted_in frames = subst (IsStrictlySortedBy bytes_cmp) (sym (keys_fold (functions_of frames) [])) (sorted-merge_all bytes_cmp-total counts_added [] (entries (functions_of frames)) tt)

-- ---- one function

module _ (f : Spot) where
  abbrev is_f : Spot → Bool
  is_f p = is_one_function p f

  abbrev named : List ℕ → Bool
  named name = is_f (function_spot unknown name)

  both_named : (a b : List ℕ) (x : Bool) → (x && bytes_eq a f.function) ≡ true → (x && bytes_eq b f.function) ≡ true → bytes_eq a f.function ≡ true
  both_named a b true first second = first
  both_named a b false first second = absurd cc

  same_name : (a b : List ℕ) → named a ≡ true → named b ≡ true → a ≡ b
  same_name a b first second =
      let x = bytes_eq unknown f.object in
      same_bytes a f.function (both_named a b x first second) ∙ sym (same_bytes b f.function (both_named b a x second first))

  none_named : (x : List ℕ) (xs : List (List ℕ)) → named x ≡ true → AllByRecursion (λ y. bytes_cmp x y ≡ Less) xs → how_many is_f xs ≡ 0
  none_named x [] is above = refl
  none_named x (y ∷ ys) is above = go (named y) refl (none_named x ys is above.1)
    where
      go : (b : Bool) → named y ≡ b → how_many is_f ys ≡ 0 → (if b then 1 else 0) + how_many is_f ys ≡ 0
      go true other rest = absurd (let e : Less ≡ Equal = sym above.0 ∙ ap (bytes_cmp x) (sym (same_name x y is other)) ∙ tied_itself bytes_cmp-total x in cc)
      go false other rest = omega (arith, rest)

  once : (xs : List (List ℕ)) → IsStrictlySortedBy bytes_cmp xs → how_many is_f xs ≡ (if list_any named xs then 1 else 0)
  once [] up = refl
  once (x ∷ xs) up = go (named x) refl (once xs (sorted_tail bytes_cmp x xs up))
    where
      go : (b : Bool) → named x ≡ b → how_many is_f xs ≡ (if list_any named xs then 1 else 0) → (if b then 1 else 0) + how_many is_f xs ≡ (if b || list_any named xs then 1 else 0)
      go true is rest = let none = none_named x xs is (sorted_head bytes_cmp x xs up) in omega (arith, none)
      go false is rest = zero-add (how_many is_f xs) ∙ rest

  one_time : (b : Bool) (n : ℕ) → times (if b then 1 else 0) n ≡ (if b then n else 0)
  one_time true n = let e : n + 0 ≡ n = omega arith in e
  one_time false n = refl

  stack_at : (frames : List ℕ) (count : ℕ) → cost_where Function is_f (rows_of (names_costs count (functions_in frames))) ≡ (if is_frame f frames then count else 0)
  stack_at frames count =
      names_where is_f count (functions_in frames)
      ∙ ap (λ n. times n count) (once (functions_in frames) (sorted_in frames) ∙ ap (λ b. if b then 1 else 0) (any_in named frames))
      ∙ one_time (is_frame f frames) count

  both : (xs ys : List (Spot × ℕ)) → cost_where Function is_f (rows_of (xs ++ ys)) ≡ cost_where Function is_f (rows_of xs) + cost_where Function is_f (rows_of ys)
  both xs ys = ap (cost_where Function is_f) (rows_append xs ys) ∙ where_append Function is_f (rows_of xs) (rows_of ys)

  frames_at : (seen : List Seen) → cost_where Function is_f (rows_of (frame_costs seen)) ≡ frame_count f seen
  frames_at [] = refl
  frames_at (s ∷ seen) = both (names_costs s.stack.count (functions_in s.stack.frames)) (frame_costs seen) ∙ ap₂ ◌+◌ (stack_at s.stack.frames s.stack.count) (frames_at seen)

  self_at : (costs : List (Spot × ℕ)) → cost_where Function is_f (rows_of costs) ≡ self_cost f costs
  self_at [] = refl
  self_at (e ∷ costs) = ap (λ n. (if is_f e.0 then e.1 else 0) + n) (self_at costs)

  outward_at : (calls : List Calls) → cost_where Function is_f (rows_of (outward_costs calls)) ≡ outward_cost f calls
  outward_at [] = refl
  outward_at (c ∷ calls) = go (is_one_function c.caller c.callee) (outward_at calls)
    where
      go : (b : Bool) → cost_where Function is_f (rows_of (outward_costs calls)) ≡ outward_cost f calls
          → cost_where Function is_f (rows_of (if b then outward_costs calls else (c.caller, c.sum.first) ∷ outward_costs calls)) ≡ (if not b && is_f c.caller then c.sum.first else 0) + outward_cost f calls
      go true rest = rest ∙ sym (zero-add (outward_cost f calls))
      go false rest = ap (λ n. (if is_f c.caller then c.sum.first else 0) + n) rest

  pub costs_of_function : (files : List EventRecords) (seen : List Seen) → sum_where is_f (λ n. n) (inclusive_costs files seen).sums ≡ inclusive_cost f files seen
  costs_of_function files seen =
      sums_cost Function is_f (rows_of (all_costs files ++ (outward_costs (all_calls files) ++ frame_costs seen)))
      ∙ both (all_costs files) (outward_costs (all_calls files) ++ frame_costs seen)
      ∙ ap₂ ◌+◌ (self_at (all_costs files)) (both (outward_costs (all_calls files)) (frame_costs seen) ∙ ap₂ ◌+◌ (outward_at (all_calls files)) (frames_at seen))
