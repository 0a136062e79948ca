-- Over all functions, callers and callees sum to the calls.
use Rattle.std.proofs.Common.{◌≡◌, ℕ, ◌+◌, Bool, true, false, List, [], ◌∷◌, if◌then◌else◌, refl, sym, ap, ap₂, ◌∙◌, arith}
use Rattle.cost_rows.specs.Merging.{sum_where}
use Rattle.cost_rows.specs.Sums.{Spot}
use Rattle.report_texts.specs.Calls.{Calls, HaveFunctions, asked, other, calls_at, sum_of, times_in, totals_of}
use Rattle.report_texts.specs.Functions.{is_one_function}
use Rattle.report_texts.specs.Pairs.{pairs_added}
use Rattle.report_texts.specs.declared.call_sides.CallSide.{CallSide}
use Rattle.report_texts.specs.declared.call_sides.CallSide.TheVariants.{Callers, Callees}
use Rattle.report_texts.specs.declared.pairs.Pair.{Pair}
use Rattle.cost_reports.proofs.PairLemmas.{pair, firsts_by, seconds_by}

-- a number at each function of a list that is another
abbrev at_each : Spot → ℕ → List Spot → ℕ
at_each f n [] = 0
at_each f n (g ∷ functions) = (if is_one_function g f then n else 0) + at_each f n functions

at_none : (f : Spot) (n : ℕ) (functions : List Spot) → times_in functions f ≡ 0 → at_each f n functions ≡ 0
at_none f n [] none = refl
at_none f n (g ∷ functions) none = go (is_one_function g f) (times_in functions f) (at_none f n functions) none
  where
    go : (b : Bool) (t : ℕ) → (t ≡ 0 → at_each f n functions ≡ 0) → (if b then 1 else 0) + t ≡ 0 → (if b then n else 0) + at_each f n functions ≡ 0
    go true t rest none = absurd (omega (arith, none))
    go false t rest none = let e = rest (omega (arith, none)) in omega (arith, e)

at_one : (f : Spot) (n : ℕ) (functions : List Spot) → times_in functions f ≡ 1 → at_each f n functions ≡ n
at_one f n [] one = absurd (omega (arith, one))
at_one f n (g ∷ functions) one = go (is_one_function g f) (times_in functions f) (at_none f n functions) (at_one f n functions) one
  where
    go : (b : Bool) (t : ℕ) → (t ≡ 0 → at_each f n functions ≡ 0) → (t ≡ 1 → at_each f n functions ≡ n) → (if b then 1 else 0) + t ≡ 1 → (if b then n else 0) + at_each f n functions ≡ n
    go true t none rest one = let e = none (omega (arith, one)) in omega (arith, e)
    go false t none rest one = let e = rest (omega (arith, one)) in omega (arith, e)

module _ (measure : Pair → ℕ) where
  -- what the calls of a function sum to
  abbrev calls_sum : CallSide → List Calls → Spot → ℕ
  calls_sum side calls f = sum_where (λ _. true) measure (calls_at side f calls)

  -- and those of some functions
  abbrev pub calls_sums : CallSide → List Calls → List Spot → ℕ
  calls_sums side calls [] = 0
  calls_sums side calls (f ∷ functions) = calls_sum side calls f + calls_sums side calls functions

  abbrev pub all_sum : List Calls → ℕ
  all_sum [] = 0
  all_sum (c ∷ calls) = measure c.sum + all_sum calls

  one_more : (side : CallSide) (f : Spot) (c : Calls) (calls : List Calls)
      → calls_sum side (c ∷ calls) f ≡ (if is_one_function f (asked side c) then measure c.sum else 0) + calls_sum side calls f
  one_more side f c calls = go (is_one_function f (asked side c))
    where
      go : (b : Bool) → sum_where (λ _. true) measure (if b then (other side c, c.sum) ∷ calls_at side f calls else calls_at side f calls) ≡ (if b then measure c.sum else 0) + calls_sum side calls f
      go true = refl
      go false = omega arith

  more_sums : (side : CallSide) (c : Calls) (calls : List Calls) (functions : List Spot)
      → calls_sums side (c ∷ calls) functions ≡ at_each (asked side c) (measure c.sum) functions + calls_sums side calls functions
  more_sums side c calls [] = refl
  more_sums side c calls (f ∷ functions) =
      let one = one_more side f c calls in
      let rest = more_sums side c calls functions in
      omega (arith, one, rest)

  no_calls : (side : CallSide) (functions : List Spot) → calls_sums side [] functions ≡ 0
  no_calls side [] = refl
  no_calls side (f ∷ functions) = let rest = no_calls side functions in omega (arith, rest)

  asked_once : (side : CallSide) (functions : List Spot) (c : Calls) → times_in functions c.caller ≡ 1 → times_in functions c.callee ≡ 1 → times_in functions (asked side c) ≡ 1
  asked_once Callers functions c caller callee = callee
  asked_once Callees functions c caller callee = caller

  pub sums_are_all : (side : CallSide) (calls : List Calls) (functions : List Spot) → HaveFunctions functions calls → calls_sums side calls functions ≡ all_sum calls
  sums_are_all side [] functions have = no_calls side functions
  sums_are_all side (c ∷ calls) functions have =
      let one = at_one (asked side c) (measure c.sum) functions (asked_once side functions c have.0 have.1.0) in
      let more = more_sums side c calls functions in
      let rest = sums_are_all side calls functions have.1.1 in
      omega (arith, one, more, rest)

-- ---- costs and counts

totals_are : (side : CallSide) (calls : List Calls) (functions : List Spot)
    → totals_of side calls functions ≡ pair (calls_sums (λ (p : Pair). p.first) side calls functions) (calls_sums (λ (p : Pair). p.second) side calls functions)
totals_are side calls [] = refl
totals_are side calls (f ∷ functions) =
    let first = firsts_by (λ _. true) (calls_at side f calls) in
    let second = seconds_by (λ _. true) (calls_at side f calls) in
    ap₂ pairs_added (ap₂ pair first second) (totals_are side calls functions)

sums_are : (calls : List Calls) → sum_of calls ≡ pair (all_sum (λ (p : Pair). p.first) calls) (all_sum (λ (p : Pair). p.second) calls)
sums_are [] = refl
sums_are (c ∷ calls) = ap (pairs_added c.sum) (sums_are calls)

pub totals_are_all : (side : CallSide) (calls : List Calls) (functions : List Spot) → HaveFunctions functions calls → totals_of side calls functions ≡ sum_of calls
totals_are_all side calls functions have =
    totals_are side calls functions
    ∙ ap₂ pair (sums_are_all (λ (p : Pair). p.first) side calls functions have) (sums_are_all (λ (p : Pair). p.second) side calls functions have)
    ∙ sym (sums_are calls)
