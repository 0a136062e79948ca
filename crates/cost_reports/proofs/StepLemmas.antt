-- Two lists of sums in order, side by side: read in step they need no search.
use Rattle.std.proofs.Common.{◌≡◌, ℕ, List, [], ◌∷◌, ◌++◌, map, Bool, true, false, Option, Some, None, refl, sym, ap, ap₂, subst, subst₂, ◌∙◌, append_assoc, ◌==◌, if◌then◌else◌, add-zero, zero-add}
use Rattle.std.specs.declared.cmp.Ordering.TheVariants.{Less, Equal, Greater}
use Rattle.std.specs.Ordering.{match_ordering, ordering_reverse}
use Rattle.std.specs.List.{AllByRecursion}
use Rattle.std.specs.List.Sorted.{IsStrictlySortedBy}
use Rattle.std.specs.Map.{keys_of}
use Rattle.std.proofs.lemmas.Grind.{fold-append}
use Rattle.std.proofs.lemmas.Map.Keys.{sorted_head, sorted_tail}
use Rattle.cost_rows.specs.Keys.{lent_place, named_cmp}
use Rattle.cost_rows.specs.Merging.{merge, merge_all}
use Rattle.cost_rows.specs.Sums.{Spot}
use Rattle.cost_rows.proofs.KeysLemmas.{named_cmp-total, named_cmp-apart}
use Rattle.report_texts.specs.Differences.{beside, differing, less, on_side}
use Rattle.report_texts.specs.Pairs.{pairs_added}
use Rattle.report_texts.specs.declared.differences.Side.{Side}
use Rattle.report_texts.specs.declared.differences.Side.TheVariants.{First, Second}
use Rattle.report_texts.specs.declared.pairs.Pair.{Pair}
use Rattle.report_texts.specs.declared.signed.Signed.{Signed}
use Rattle.cost_reports.specs.InStep.{from_row, left_of, ComesNext, IsAlone, IsInOrder}
use Rattle.cost_reports.specs.Rows.{plain_row}
use Rattle.cost_reports.specs.declared.differences.Next.{Next}
use Rattle.cost_reports.specs.declared.rows.Row.{Row}

-- a place is before all of these
abbrev IsBefore : Spot → List Spot → Type 0
IsBefore p ks = AllByRecursion (λ q. named_cmp p q ≡ Less) ks

abbrev merged : List (Spot × Pair) → List (Spot × Pair) → List (Spot × Pair)
merged = merge_all named_cmp pairs_added

-- ---- merging in order

-- what comes behind the first entry is merged behind it
past_one : (e : Spot × Pair) (es : List (Spot × Pair)) (key : Spot) (amount : Pair) → named_cmp e.0 key ≡ Less → merge named_cmp pairs_added (e ∷ es) key amount ≡ e ∷ merge named_cmp pairs_added es key amount
past_one e es key amount below =
    ap (λ r. match_ordering r ((key, amount) ∷ e ∷ es) ((e.0, pairs_added e.1 amount) ∷ es) (e ∷ merge named_cmp pairs_added es key amount)) (named_cmp-total.antisymm key e.0 ∙ ap ordering_reverse below)

past_all : (e : Spot × Pair) (es amounts : List (Spot × Pair)) → IsBefore e.0 (keys_of amounts) → merged (e ∷ es) amounts ≡ e ∷ merged es amounts
past_all e es [] all = refl
past_all e es (a ∷ amounts) all = ap (λ l. merged l amounts) (past_one e es a.0 a.1 all.0) ∙ past_all e (merge named_cmp pairs_added es a.0 a.1) amounts all.1

-- what comes before all entries is merged in front of them
in_front : (es : List (Spot × Pair)) (key : Spot) (amount : Pair) → IsBefore key (keys_of es) → merge named_cmp pairs_added es key amount ≡ (key, amount) ∷ es
in_front [] key amount all = refl
in_front (e ∷ es) key amount all = ap (λ r. match_ordering r ((key, amount) ∷ e ∷ es) ((e.0, pairs_added e.1 amount) ∷ es) (e ∷ merge named_cmp pairs_added es key amount)) all.0

-- what is merged at the place of the first entry is added to it
at_first : (e : Spot × Pair) (es : List (Spot × Pair)) (key : Spot) (amount : Pair) → named_cmp e.0 key ≡ Equal → merge named_cmp pairs_added (e ∷ es) key amount ≡ (e.0, pairs_added e.1 amount) ∷ es
at_first e es key amount same =
    ap (λ r. match_ordering r ((key, amount) ∷ e ∷ es) ((e.0, pairs_added e.1 amount) ∷ es) (e ∷ merge named_cmp pairs_added es key amount)) (named_cmp-total.antisymm key e.0 ∙ ap ordering_reverse same)

-- ---- the two sides

before_side : (side : Side) (p : Spot) (sums : List (Spot × ℕ)) → IsBefore p (keys_of sums) → IsBefore p (keys_of (map (on_side side) sums))
before_side side p [] all = tt
before_side side p (e ∷ sums) all = (all.0, before_side side p sums all.1)

before_sides : (p : Spot) (firsts seconds : List (Spot × ℕ)) → IsBefore p (keys_of firsts) → IsBefore p (keys_of seconds) → IsBefore p (keys_of (map (on_side First) firsts ++ map (on_side Second) seconds))
before_sides p [] seconds one two = before_side Second p seconds two
before_sides p (e ∷ firsts) seconds one two = (one.0, before_sides p firsts seconds one.1 two)

-- a place that is before another is before all behind that
before_too : (p q : Spot) (ks : List Spot) → named_cmp p q ≡ Less → IsBefore q ks → IsBefore p ks
before_too p q [] less all = tt
before_too p q (k ∷ ks) less all = (named_cmp-total.trans p q k less all.0, before_too p q ks less all.1)

-- first one side, then the other
one_by_one : (firsts seconds : List (Spot × ℕ)) → beside firsts seconds ≡ merged (merged [] (map (on_side First) firsts)) (map (on_side Second) seconds)
one_by_one firsts seconds = fold-append (λ es (a : Spot × Pair). merge named_cmp pairs_added es a.0 a.1) [] (map (on_side First) firsts) (map (on_side Second) seconds)

-- sums in order are merged as they are
firsts_in_order : (firsts : List (Spot × ℕ)) → IsInOrder firsts → merged [] (map (on_side First) firsts) ≡ map (on_side First) firsts
firsts_in_order [] up = refl
firsts_in_order (e ∷ firsts) up =
    past_all (on_side First e) [] (map (on_side First) firsts) (before_side First e.0 firsts (sorted_head named_cmp e.0 (keys_of firsts) up))
    ∙ ap (λ l. on_side First e ∷ l) (firsts_in_order firsts (sorted_tail named_cmp e.0 (keys_of firsts) up))

module _ (x : Spot × ℕ) (firsts : List (Spot × ℕ)) (up : IsInOrder (x ∷ firsts)) where
  first_before : (seconds : List (Spot × ℕ)) → IsBefore x.0 (keys_of seconds) → beside (x ∷ firsts) seconds ≡ on_side First x ∷ beside firsts seconds
  first_before seconds all = past_all (on_side First x) [] (map (on_side First) firsts ++ map (on_side Second) seconds) (before_sides x.0 firsts seconds (sorted_head named_cmp x.0 (keys_of firsts) up) all)

  -- the second side has ended
  pub first_left : beside (x ∷ firsts) [] ≡ on_side First x ∷ beside firsts []
  first_left = first_before [] tt

second_before : (y : Spot × ℕ) (firsts seconds : List (Spot × ℕ)) → IsInOrder firsts → IsInOrder (y ∷ seconds) → IsBefore y.0 (keys_of firsts) → beside firsts (y ∷ seconds) ≡ on_side Second y ∷ beside firsts seconds
second_before y firsts seconds one up all =
    let here = merged [] (map (on_side First) firsts) in
    let before : IsBefore y.0 (keys_of here) = subst (λ l. IsBefore y.0 (keys_of l)) (sym (firsts_in_order firsts one)) (before_side First y.0 firsts all) in
    one_by_one firsts (y ∷ seconds)
    ∙ ap (λ l. merged l (map (on_side Second) seconds)) (in_front here y.0 (on_side Second y).1 before)
    ∙ past_all (on_side Second y) here (map (on_side Second) seconds) (before_side Second y.0 seconds (sorted_head named_cmp y.0 (keys_of seconds) up))
    ∙ ap (λ l. on_side Second y ∷ l) (sym (one_by_one firsts seconds))

none_in_order : IsInOrder []
unfolding IsStrictlySortedBy
none_in_order = tt

-- the first side has ended
pub second_left : (y : Spot × ℕ) (seconds : List (Spot × ℕ)) → IsInOrder (y ∷ seconds) → beside [] (y ∷ seconds) ≡ on_side Second y ∷ beside [] seconds
second_left y seconds up = second_before y [] seconds none_in_order up tt

module _ (x y : Spot × ℕ) (firsts seconds : List (Spot × ℕ)) (one : IsInOrder (x ∷ firsts)) (two : IsInOrder (y ∷ seconds)) where
  pub first_next : named_cmp x.0 y.0 ≡ Less → beside (x ∷ firsts) (y ∷ seconds) ≡ on_side First x ∷ beside firsts (y ∷ seconds)
  first_next less = first_before x firsts one (y ∷ seconds) (less, before_too x.0 y.0 (keys_of seconds) less (sorted_head named_cmp y.0 (keys_of seconds) two))

  pub second_next : named_cmp x.0 y.0 ≡ Greater → beside (x ∷ firsts) (y ∷ seconds) ≡ on_side Second y ∷ beside (x ∷ firsts) seconds
  second_next greater =
      let less : named_cmp y.0 x.0 ≡ Less = named_cmp-total.antisymm y.0 x.0 ∙ ap ordering_reverse greater in
      second_before y (x ∷ firsts) seconds one two (less, before_too y.0 x.0 (keys_of firsts) less (sorted_head named_cmp x.0 (keys_of firsts) one))

  pub both_next : named_cmp x.0 y.0 ≡ Equal → beside (x ∷ firsts) (y ∷ seconds) ≡ (x.0, record { first = x.1; second = y.1 }) ∷ beside firsts seconds
  both_next same =
      let here = merged [] (map (on_side First) firsts) in
      let pair : ℕ → ℕ → Pair = λ m n. record { first = m; second = n } in
      let sum : Spot × Pair = (x.0, pairs_added (on_side First x).1 (on_side Second y).1) in
      let place : x.0 ≡ y.0 = named_cmp-apart x.0 y.0 same in
      let before : IsBefore x.0 (keys_of seconds) = subst (λ p. IsBefore p (keys_of seconds)) (sym place) (sorted_head named_cmp y.0 (keys_of seconds) two) in
      one_by_one (x ∷ firsts) (y ∷ seconds)
      ∙ ap (λ l. merged l (map (on_side Second) (y ∷ seconds))) (past_all (on_side First x) [] (map (on_side First) firsts) (before_side First x.0 firsts (sorted_head named_cmp x.0 (keys_of firsts) one)))
      ∙ ap (λ l. merged l (map (on_side Second) seconds)) (at_first (on_side First x) here y.0 (on_side Second y).1 same)
      ∙ past_all sum here (map (on_side Second) seconds) (before_side Second x.0 seconds before)
      ∙ ap₂ (λ (s : Pair) l. (x.0, s) ∷ l) (ap₂ pair (add-zero x.1) (zero-add y.1)) (sym (one_by_one firsts seconds))

-- ---- the rows that come next

rest_in_order : (row : Row) (sums : List (Spot × ℕ)) → IsInOrder (from_row (Some row) sums) → IsInOrder sums
rest_in_order row sums up = sorted_tail named_cmp (lent_place row.place) (keys_of sums) up

module _ (a : Row) (firsts seconds : List (Spot × ℕ)) (next : Next) where
  as_first : (second : Option Row) → IsAlone First a next → IsInOrder (from_row (Some a) firsts) → IsInOrder (from_row second seconds)
      → beside (from_row (Some a) firsts) (from_row second seconds) ≡ on_side First (plain_row a) ∷ beside firsts (from_row second seconds) → ComesNext (Some a) firsts second seconds (Some next)
  as_first second alone one two is = (
    is
        ∙ ap₂ (λ p (q : Pair). (p, q) ∷ beside firsts (from_row second seconds)) (sym alone.0) (sym alone.1)
        ∙ ap₂ (λ f s. (lent_place next.place, next.pair) ∷ beside (left_of f (Some a) firsts) (left_of s second seconds)) (sym alone.2) (sym alone.3),
    subst (λ f. IsInOrder (left_of f (Some a) firsts)) (sym alone.2) (rest_in_order a firsts one),
    subst (λ s. IsInOrder (left_of s second seconds)) (sym alone.3) two,
  )

  as_second : (first : Option Row) → IsAlone Second a next → IsInOrder (from_row first firsts) → IsInOrder (from_row (Some a) seconds)
      → beside (from_row first firsts) (from_row (Some a) seconds) ≡ on_side Second (plain_row a) ∷ beside (from_row first firsts) seconds → ComesNext first firsts (Some a) seconds (Some next)
  as_second first alone one two is = (
    is
        ∙ ap₂ (λ p (q : Pair). (p, q) ∷ beside (from_row first firsts) seconds) (sym alone.0) (sym alone.1)
        ∙ ap₂ (λ f s. (lent_place next.place, next.pair) ∷ beside (left_of f first firsts) (left_of s (Some a) seconds)) (sym alone.2) (sym alone.3),
    subst (λ f. IsInOrder (left_of f first firsts)) (sym alone.2) one,
    subst (λ s. IsInOrder (left_of s (Some a) seconds)) (sym alone.3) (rest_in_order a seconds two),
  )

module _ (first second : Option Row) (firsts seconds : List (Spot × ℕ)) (one : IsInOrder (from_row first firsts)) (two : IsInOrder (from_row second seconds)) where
  module _ (next : Next) where
    pub comes_first : (a b : Row) → first ≡ Some a → second ≡ Some b → named_cmp (lent_place a.place) (lent_place b.place) ≡ Less → IsAlone First a next → ComesNext first firsts second seconds (Some next)
    comes_first a b is_a is_b less alone =
        let here = subst (λ f. IsInOrder (from_row f firsts)) is_a one in
        let there = subst (λ s. IsInOrder (from_row s seconds)) is_b two in
        subst₂ (λ f s. ComesNext f firsts s seconds (Some next)) (sym is_a) (sym is_b) (as_first a firsts seconds next (Some b) alone here there (first_next (plain_row a) (plain_row b) firsts seconds here there less))

    pub comes_second : (a b : Row) → first ≡ Some a → second ≡ Some b → named_cmp (lent_place a.place) (lent_place b.place) ≡ Greater → IsAlone Second b next → ComesNext first firsts second seconds (Some next)
    comes_second a b is_a is_b greater alone =
        let here = subst (λ f. IsInOrder (from_row f firsts)) is_a one in
        let there = subst (λ s. IsInOrder (from_row s seconds)) is_b two in
        subst₂ (λ f s. ComesNext f firsts s seconds (Some next)) (sym is_a) (sym is_b) (as_second b firsts seconds next (Some a) alone here there (second_next (plain_row a) (plain_row b) firsts seconds here there greater))

    pub comes_last : (a : Row) → first ≡ Some a → second ≡ None → IsAlone First a next → ComesNext first firsts second seconds (Some next)
    comes_last a is_a none alone =
        let here = subst (λ f. IsInOrder (from_row f firsts)) is_a one in
        let there = subst (λ s. IsInOrder (from_row s seconds)) none two in
        subst₂ (λ f s. ComesNext f firsts s seconds (Some next)) (sym is_a) (sym none) (as_first a firsts seconds next None alone here there (first_left (plain_row a) firsts here))

    pub comes_last_of_second : (b : Row) → first ≡ None → second ≡ Some b → IsAlone Second b next → ComesNext first firsts second seconds (Some next)
    comes_last_of_second b none is_b alone =
        let here = subst (λ f. IsInOrder (from_row f firsts)) none one in
        let there = subst (λ s. IsInOrder (from_row s seconds)) is_b two in
        subst₂ (λ f s. ComesNext f firsts s seconds (Some next)) (sym none) (sym is_b) (as_second b firsts seconds next None alone here there (second_left (plain_row b) seconds there))

  pub comes_of_both : (a b : Row) → first ≡ Some a → second ≡ Some b → named_cmp (lent_place a.place) (lent_place b.place) ≡ Equal
      → (beside (from_row first firsts) (from_row second seconds) ≡ (lent_place a.place, record { first = a.cost.0; second = b.cost.0 }) ∷ beside firsts seconds) × IsInOrder firsts × IsInOrder seconds
  comes_of_both a b is_a is_b same =
      let here = subst (λ f. IsInOrder (from_row f firsts)) is_a one in
      let there = subst (λ s. IsInOrder (from_row s seconds)) is_b two in
      (ap₂ (λ f s. beside (from_row f firsts) (from_row s seconds)) is_a is_b ∙ both_next (plain_row a) (plain_row b) firsts seconds here there same, rest_in_order a firsts here, rest_in_order b seconds there)

-- ---- the rows so far

-- the sums that are left are those that come next, or are still there
pub now_left : (taken : Bool) (row now : Option Row) (sums : List (Spot × ℕ)) → taken ≡ false → now ≡ row → left_of taken row sums ≡ from_row now sums
now_left taken row now sums not_taken same = ap (λ b. left_of b row sums) not_taken ∙ ap (λ r. from_row r sums) (sym same)

pub next_left : (taken : Bool) (row now : Option Row) (sums rest : List (Spot × ℕ)) → taken ≡ true → sums ≡ from_row now rest → left_of taken row sums ≡ from_row now rest
next_left taken row now sums rest is_taken same = ap (λ b. left_of b row sums) is_taken ∙ same

-- ---- what differs

differing_more : (e : Spot × Pair) (es : List (Spot × Pair)) → differing (e ∷ es) ≡ differing (e ∷ []) ++ differing es
differing_more e es = go (e.1.first == e.1.second)
  where
    go : (b : Bool) → (if b then differing es else (e.0, less e.1.first e.1.second) ∷ differing es) ≡ (if b then [] else (e.0, less e.1.first e.1.second) ∷ []) ++ differing es
    go true = refl
    go false = refl

-- one place more
pub differing_so_far : (so_far now : List (Spot × Signed)) (e : Spot × Pair) (old left all : List (Spot × Pair)) → old ≡ e ∷ left → now ≡ so_far ++ differing (e ∷ []) → so_far ++ differing old ≡ differing all → now ++ differing left ≡ differing all
differing_so_far so_far now e old left all is pushed h =
    ap (λ l. l ++ differing left) pushed ∙ append_assoc so_far (differing (e ∷ [])) (differing left) ∙ ap (λ l. so_far ++ l) (sym (differing_more e left) ∙ ap differing (sym is)) ∙ h
