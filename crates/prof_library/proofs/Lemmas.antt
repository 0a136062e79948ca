-- Rows that are added one after another: what is held, and what it sums to.
use Rattle.std.proofs.Common.{◌≡◌, ℕ, ◌+◌, ◌≤◌, ◌<◌, Bool, true, false, if◌then◌else◌, List, [], ◌∷◌, ◌++◌, length, drop, slice_index_or, fold, sum_by, IsPermutation, inl, refl, sym, ap, subst, ◌∙◌, arith, drop-cons, add-one}
use Rattle.std.specs.Borrow.{Bor}
use Rattle.std.proofs.lemmas.Grind.{fold-append}
use Rattle.std.proofs.lemmas.List.{append-nil}
use Rattle.std.proofs.lemmas.List.Sorted.{IsPermutation-refl}
use Rattle.std.proofs.lemmas.List.Sums.{sum_by-cons}
use Rattle.cost_rows.specs.KeySums.{Sums, rows_of, total_of, with_row}
use Rattle.cost_rows.specs.Sums.{Spot}
use Rattle.cost_rows.specs.declared.rows.ArcRow.{ArcRow}
use Rattle.cost_rows.specs.declared.rows.CellRow.{CellRow}
use Rattle.cost_rows.specs.declared.rows.StackRow.{StackRow}
use Rattle.cost_reports.specs.Enough.{AreAbove, AreEnough}
use Rattle.cost_reports.proofs.KeyLemmas.{rows_append}
use Rattle.cost_reports.proofs.PairLemmas.{total_with}
use Rattle.report_texts.specs.Calls.{Calls, CallsOfFunction, asked, calls_of_row, other, sum_of, with_calls}
use Rattle.report_texts.specs.Functions.{is_one_function}
use Rattle.report_texts.specs.Inclusive.{functions_in, names_costs, row_costs}
use Rattle.report_texts.specs.Pairs.{AreBelow, firsts_of, pairs_with, seconds_of}
use Rattle.report_texts.specs.declared.cuts.Cut.{Cut}
use Rattle.report_texts.specs.declared.pairs.Pair.{Pair}
use Rattle.prof_library.specs.Given.{calls_in, cost_of, plain_stacks}

-- ---- the next row

pub next_row : {A : Type 0} (rows : List A) (i : ℕ) (d : A) → i < length rows → drop i rows ≡ slice_index_or rows i d ∷ drop (i + 1) rows
next_row rows i d low = rw (add-one, drop-cons rows i d low) refl

-- ---- all sums are enough

above_none : (sums : List (Spot × ℕ)) → AreAbove (λ (e : Spot × ℕ). e.1) sums []
above_none [] = tt
above_none (e ∷ sums) = (tt, above_none sums)

pub all_are_enough : (cut : Cut) (sums : List (Spot × ℕ)) → AreEnough (λ (e : Spot × ℕ). e.1) cut sums sums
all_are_enough cut sums = record {
  others = [];
  are_all = subst (λ all. IsPermutation all sums) (sym (append-nil sums)) (IsPermutation-refl sums);
  above = above_none sums;
  suffice = inl refl;
}

-- ---- calls of a function

-- what is held grows by what calls cost, or by nothing
pub calls_grow : (held : CallsOfFunction) (c : Calls)
    → (firsts_of (with_calls held c).sums ≤ firsts_of held.sums + c.sum.first) × (seconds_of (with_calls held c).sums ≤ seconds_of held.sums + c.sum.second)
calls_grow held c = go (is_one_function held.function (asked held.side c))
  where
    go : (b : Bool) → let came : CallsOfFunction = if b then record held { sums = pairs_with (other held.side c) c.sum held.sums } else held in
        (firsts_of came.sums ≤ firsts_of held.sums + c.sum.first) × (seconds_of came.sums ≤ seconds_of held.sums + c.sum.second)
    go true =
        let total = total_with (other held.side c) c.sum held.sums in
        let first = ap (λ (p : Pair). p.first) total in
        let second = ap (λ (p : Pair). p.second) total in
        (omega (arith, first), omega (arith, second))
    go false = (omega arith, omega arith)

abbrev StayBelow : CallsOfFunction → List (ArcRow (Bor (List ℕ)) ℕ) → Type 0
StayBelow held rows = AreBelow (firsts_of held.sums + (sum_of (calls_in rows)).first) (seconds_of held.sums + (sum_of (calls_in rows)).second)

pub stay_below : (held came : CallsOfFunction) (rows : List (ArcRow (Bor (List ℕ)) ℕ)) (i : ℕ) (d : ArcRow (Bor (List ℕ)) ℕ) → i < length rows
    → came ≡ with_calls held (calls_of_row (slice_index_or rows i d)) → StayBelow held (drop i rows) → StayBelow came (drop (i + 1) rows)
stay_below held came rows i d low is below =
    let c = calls_of_row (slice_index_or rows i d) in
    let whole = subst (StayBelow held) (next_row rows i d low) below in
    let grown = calls_grow held c in
    subst (λ (h : CallsOfFunction). StayBelow h (drop (i + 1) rows)) (sym is)
    (record { first = omega (arith, whole.first, grown.0); second = omega (arith, whole.second, grown.1) })

-- ---- sums of two lists

pub total_append : (xs ys : List (Spot × ℕ)) → total_of (xs ++ ys) ≡ total_of xs + total_of ys
total_append [] ys = omega arith
total_append (e ∷ xs) ys = let rest = total_append xs ys in omega (arith, rest)

pub rows_added : (s : Sums) (xs ys : List (Spot × ℕ)) → fold with_row (fold with_row s (rows_of xs)) (rows_of ys) ≡ fold with_row s (rows_of (xs ++ ys))
rows_added s xs ys = sym (fold-append with_row s (rows_of xs) (rows_of ys)) ∙ ap (fold with_row s) (sym (rows_append xs ys))

pub cost_is_sum : (rows : List (CellRow (List ℕ))) → cost_of rows ≡ sum_by (λ (r : CellRow (List ℕ)). r.cost) rows
cost_is_sum [] = refl
cost_is_sum (row ∷ rows) = ap (λ n. row.cost + n) (cost_is_sum rows) ∙ sym (sum_by-cons (λ (r : CellRow (List ℕ)). r.cost) row rows)

-- ---- stacks

abbrev frames_at : List (StackRow (Bor (List ℕ))) → ℕ → StackRow (Bor (List ℕ)) → List (List ℕ)
frames_at rows i d = functions_in (slice_index_or rows i d).stack.now

pub stack_added : (held came : Sums) (rows : List (StackRow (Bor (List ℕ)))) (i : ℕ) (d : StackRow (Bor (List ℕ))) (names : List (List ℕ)) → i < length rows
    → names ≡ frames_at rows i d → came ≡ fold with_row held (rows_of (names_costs (slice_index_or rows i d).count names))
    → fold with_row came (rows_of (row_costs (plain_stacks (drop (i + 1) rows)))) ≡ fold with_row held (rows_of (row_costs (plain_stacks (drop i rows))))
stack_added held came rows i d names low are is =
    let count = (slice_index_or rows i d).count in
    let rest = row_costs (plain_stacks (drop (i + 1) rows)) in
    ap (λ s. fold with_row s (rows_of rest)) is ∙ rows_added held (names_costs count names) rest
    ∙ ap (λ ns. fold with_row held (rows_of (names_costs count ns ++ rest))) are
    ∙ sym (ap (λ l. fold with_row held (rows_of (row_costs (plain_stacks l)))) (next_row rows i d low))

pub stack_counted : (rows : List (StackRow (Bor (List ℕ)))) (i : ℕ) (d : StackRow (Bor (List ℕ))) (names : List (List ℕ)) → i < length rows → names ≡ frames_at rows i d
    → total_of (names_costs (slice_index_or rows i d).count names) + total_of (row_costs (plain_stacks (drop (i + 1) rows))) ≡ total_of (row_costs (plain_stacks (drop i rows)))
stack_counted rows i d names low are =
    let count = (slice_index_or rows i d).count in
    let rest = row_costs (plain_stacks (drop (i + 1) rows)) in
    sym (total_append (names_costs count names) rest)
    ∙ ap (λ ns. total_of (names_costs count ns ++ rest)) are
    ∙ sym (ap (λ l. total_of (row_costs (plain_stacks l))) (next_row rows i d low))
