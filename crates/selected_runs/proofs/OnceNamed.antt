-- Where each name is held once, no two sums by number have one place by names, so merging them by name only orders them.
use Rattle.std.proofs.Common.{◌≡◌, ◌≢◌, ℕ, ◌<◌, nat_eq, List, [], ◌∷◌, ◌++◌, fold, map, inl, inr, refl, sym, ap, ◌∙◌, subst, arith, IsPermutation}
use Rattle.std.specs.declared.cmp.Ordering.{Ordering}
use Rattle.std.specs.declared.cmp.Ordering.TheVariants.{Less, Equal, Greater}
use Rattle.std.specs.List.{AllByRecursion}
use Rattle.std.specs.List.Sorted.{IsStrictlySortedBy}
use Rattle.std.specs.Map.{keys_of}
use Rattle.std.specs.Ordering.{match_ordering}
use Rattle.std.proofs.lemmas.Bool.{cases_Bool}
use Rattle.std.proofs.lemmas.Cmp.{tied_itself}
use Rattle.std.proofs.lemmas.List.{append-nil}
use Rattle.std.proofs.lemmas.List.Sorted.{IsPermutation-append_right, IsPermutation-cons, IsPermutation-middle, IsPermutation-refl, IsPermutation-sym, IsPermutation-trans}
use Rattle.std.proofs.lemmas.Map.Keys.{sorted_head, sorted_tail}
use Rattle.cost_rows.specs.Keys.{named_cmp}
use Rattle.cost_rows.specs.KeySums.{Sums, sums_by, sums_with, with_row}
use Rattle.cost_rows.specs.Stacks.{counts_added}
use Rattle.cost_rows.specs.Sums.{Spot}
use Rattle.cost_rows.specs.declared.keys.Key.{Key}
use Rattle.cost_rows.specs.declared.keys.Key.TheVariants.{Object, File, Function, Line, Thread}
use Rattle.cost_rows.specs.declared.rows.CellRow.{CellRow}
use Rattle.cost_rows.proofs.KeysLemmas.{named_cmp-apart}
use Rattle.cost_rows.proofs.MergeLemmas.{positive, sorted-merge}
use Rattle.plain_tables.specs.Tables.{NameRow}
use Rattle.run_stores.specs.Book.{IsHeld}
use Rattle.run_stores.specs.Names.{named_cell, AreApart}
use Rattle.selected_runs.specs.Named.{named_sum}
use Rattle.selected_runs.specs.Sums.{SumsByNumber, number_row, number_rows, numbers_cmp, numbers_part, numbers_told, with_number}
use Rattle.selected_runs.specs.declared.parts.NumberPart.{NumberPart}
use Rattle.selected_runs.proofs.NamedSums.{named_at_the_end, row_keeps_key}
use Rattle.selected_runs.proofs.NumberLemmas.{is_some, numbers_cmp_total}
use Rattle.selected_runs.proofs.ToldLemmas.{TellsAll, all_moved, all_with, told_each}

-- ---- sums of rows

-- a sum above 0, of a part that has nothing but what a key tells
abbrev IsSum : Key → NumberPart × ℕ → Type 0
IsSum key e = (0 < e.1) × (numbers_part key (number_row e.0 0) ≡ e.0)

part_again : (key : Key) (row : CellRow ℕ) → numbers_part key (number_row (numbers_part key row) 0) ≡ numbers_part key row
part_again Object row = refl
part_again File row = refl
part_again Function row = refl
part_again Line row = refl
part_again Thread row = refl

are_sums : (key : Key) (rows : List (CellRow ℕ)) (s : SumsByNumber) → s.key ≡ key → AllByRecursion (IsSum key) s.sums → AllByRecursion (IsSum key) (fold with_number s rows).sums
are_sums key [] s is all = all
are_sums key (row ∷ rows) s is all = are_sums key rows (with_number s row) (row_keeps_key s row ∙ is) (elim (cases_Bool (nat_eq row.cost 0)) [
  | inl none ↦ rw none all
  | inr some ↦ rw some (all_with (IsSum key) (numbers_part s.key row) row.cost
      (positive row.cost some, subst (λ (k : Key). numbers_part key (number_row (numbers_part k row) 0) ≡ numbers_part k row) (sym is) (part_again key row))
      (λ e sum. (omega (arith, sum.0), sum.1)) s.sums all)
])

are_sorted : (rows : List (CellRow ℕ)) (s : SumsByNumber) → IsStrictlySortedBy numbers_cmp (keys_of s.sums) → IsStrictlySortedBy numbers_cmp (keys_of (fold with_number s rows).sums)
are_sorted [] s sorted = sorted
are_sorted (row ∷ rows) s sorted = are_sorted rows (with_number s row) (elim (cases_Bool (nat_eq row.cost 0)) [
  | inl none ↦ rw none sorted
  | inr some ↦ rw some (sorted-merge numbers_cmp_total counts_added s.sums (numbers_part s.key row) row.cost sorted)
])

none_sorted : IsStrictlySortedBy numbers_cmp []
unfolding IsStrictlySortedBy
none_sorted = tt

-- ---- names

module _ (names : List NameRow) (apart : AreApart names) where
  -- the place of a sum, by names
  abbrev spot : Key → NumberPart × ℕ → Spot
  spot key e = (named_sum names key e).0

  -- two sums with one place are of one part
  one_part : (key : Key) (a b : NumberPart × ℕ) → TellsAll (IsHeld names) key a → TellsAll (IsHeld names) key b → spot key a ≡ spot key b
      → numbers_part key (number_row a.0 0) ≡ numbers_part key (number_row b.0 0)
  one_part Object a b held others same =
      ap (λ n. record { object = n; file = 0; function = 0; line = 0; thread = 0 }) (apart a.0.object b.0.object held.0 others.0 (ap (λ (s : Spot). s.object) same))
  one_part File a b held others same =
      ap (λ n. record { object = 0; file = n; function = 0; line = 0; thread = 0 }) (apart a.0.file b.0.file held.0 others.0 (ap (λ (s : Spot). s.file) same))
  one_part Function a b held others same =
      let object : a.0.object ≡ b.0.object = apart a.0.object b.0.object held.0 others.0 (ap (λ (s : Spot). s.object) same) in
      let function : a.0.function ≡ b.0.function = apart a.0.function b.0.function held.1.0 others.1.0 (ap (λ (s : Spot). s.function) same) in
      let P : ℕ → ℕ → NumberPart = λ n m. record { object = n; file = 0; function = m; line = 0; thread = 0 } in
      ap (λ n. P n a.0.function) object ∙ ap (λ m. P b.0.object m) function
  one_part Line a b held others same =
      let file : a.0.file ≡ b.0.file = apart a.0.file b.0.file held.0 others.0 (ap (λ (s : Spot). s.file) same) in
      let line : a.0.line ≡ b.0.line = ap (λ (s : Spot). s.line) same in
      let P : ℕ → ℕ → NumberPart = λ n m. record { object = 0; file = n; function = 0; line = m; thread = 0 } in
      ap (λ n. P n a.0.line) file ∙ ap (λ m. P b.0.file m) line
  one_part Thread a b held others same = ap (λ n. record { object = 0; file = 0; function = 0; line = 0; thread = n }) (ap (λ (s : Spot). s.thread) same)

  module _ (key : Key) where
    -- sums of other places
    abbrev AreOther : Spot → List (Spot × ℕ) → Type 0
    AreOther p sums = AllByRecursion (λ (e : Spot × ℕ). p ≢ e.0) sums

    -- a sum before others by its numbers has another place
    others : (a : NumberPart × ℕ) (es : List (NumberPart × ℕ)) → TellsAll (IsHeld names) key a → IsSum key a → AllByRecursion (TellsAll (IsHeld names) key) es → AllByRecursion (IsSum key) es
        → AllByRecursion (λ p. numbers_cmp a.0 p ≡ Less) (keys_of es) → AreOther (spot key a) (map (named_sum names key) es)
    others a [] held sum helds sums after = tt
    others a (e ∷ es) held sum helds sums after = (other, others a es held sum helds.1 sums.1 after.1)
      where
        other : spot key a ≢ spot key e
        other same =
            let one : a.0 ≡ e.0 = sym sum.1 ∙ one_part key a e held helds.0 same ∙ sums.0.1 in
            let tied : numbers_cmp a.0 e.0 ≡ Equal = ap (λ p. numbers_cmp p e.0) one ∙ tied_itself numbers_cmp_total e.0 in
            let clash : Less ≡ Equal = sym after.0 ∙ tied in
            absurd cc

    -- each place stands once
    abbrev StandOnce : List (Spot × ℕ) → Type 0
    StandOnce [] = Unit {0}
    StandOnce (e ∷ es) = AreOther e.0 es × StandOnce es

    stand_once : (es : List (NumberPart × ℕ)) → AllByRecursion (TellsAll (IsHeld names) key) es → AllByRecursion (IsSum key) es → IsStrictlySortedBy numbers_cmp (keys_of es)
        → StandOnce (map (named_sum names key) es)
    stand_once [] helds sums sorted = tt
    stand_once (e ∷ es) helds sums sorted =
        (others e es helds.0 sums.0 helds.1 sums.1 (sorted_head numbers_cmp e.0 (keys_of es) sorted), stand_once es helds.1 sums.1 (sorted_tail numbers_cmp e.0 (keys_of es) sorted))

    -- ---- merging

    placed-step : (part : Spot) (cost : ℕ) (e : Spot × ℕ) (es : List (Spot × ℕ)) (r : Ordering) → named_cmp part e.0 ≡ r → part ≢ e.0 → IsPermutation ((part, cost) ∷ es) (sums_with part cost es)
        → IsPermutation ((part, cost) ∷ e ∷ es) (match_ordering r ((part, cost) ∷ e ∷ es) ((e.0, counts_added e.1 cost) ∷ es) (e ∷ sums_with part cost es))
    placed-step part cost e es Less is other rest = IsPermutation-refl ((part, cost) ∷ e ∷ es)
    placed-step part cost e es Equal is other rest = absurd (other (named_cmp-apart part e.0 is))
    placed-step part cost e es Greater is other rest =
        IsPermutation-trans ((part, cost) ∷ e ∷ es) (e ∷ (part, cost) ∷ es) (e ∷ sums_with part cost es)
        (IsPermutation-middle ((part, cost) ∷ []) e es) (IsPermutation-cons e ((part, cost) ∷ es) (sums_with part cost es) rest)

    -- a cost at a place that is not there is one sum more
    placed : (part : Spot) (cost : ℕ) (es : List (Spot × ℕ)) → AreOther part es → IsPermutation ((part, cost) ∷ es) (sums_with part cost es)
    placed part cost [] other = IsPermutation-refl ((part, cost) ∷ [])
    placed part cost (e ∷ es) other = placed-step part cost e es (named_cmp part e.0) refl other.0 (placed part cost es other.1)

    -- sums of places that are neither among those before nor that of a new one
    others_more : (part : Spot) (cost : ℕ) (es before after : List (Spot × ℕ)) → IsPermutation ((part, cost) ∷ before) after → AreOther part es
        → AllByRecursion (λ (e : Spot × ℕ). AreOther e.0 before) es → AllByRecursion (λ (e : Spot × ℕ). AreOther e.0 after) es
    others_more part cost [] before after moved other all = tt
    others_more part cost (e ∷ es) before after moved other all =
        (all_moved (λ (s : Spot × ℕ). e.0 ≢ s.0) ((part, cost) ∷ before) after moved ((λ same. other.0 (sym same)), all.0), others_more part cost es before after moved other.1 all.1)

    row_placed : (e : NumberPart × ℕ) (before : List (Spot × ℕ)) → 0 < e.1
        → ◌≡◌ {A = Sums} (with_row (record { key = key; sums = before }) (named_cell names (number_row e.0 e.1))) (record { key = key; sums = sums_with (spot key e) e.1 before })
    row_placed e before some = rw (is_some e.1 (λ none. omega (arith, none, some))) refl

    -- merging sums of places that stand once only orders them
    merged_once : (es : List (NumberPart × ℕ)) (before : List (Spot × ℕ)) → AllByRecursion (IsSum key) es → StandOnce (map (named_sum names key) es)
        → AllByRecursion (λ (e : Spot × ℕ). AreOther e.0 before) (map (named_sum names key) es)
        → IsPermutation (map (named_sum names key) es ++ before) (fold with_row (record { key = key; sums = before }) (map (named_cell names) (number_rows es))).sums
    merged_once [] before sums once other = IsPermutation-refl before
    merged_once (e ∷ es) before sums once other =
        let more : List (Spot × ℕ) = map (named_sum names key) es in
        let part : Spot = spot key e in
        let after : List (Spot × ℕ) = sums_with part e.1 before in
        let new = placed part e.1 before other.0 in
        let rest = merged_once es after sums.1 once.1 (others_more part e.1 more before after new once.0 other.1) in
        let all : List (Spot × ℕ) = (fold with_row (record { key = key; sums = after }) (map (named_cell names) (number_rows es))).sums in
        subst (λ (s : Sums). IsPermutation ((part, e.1) ∷ (more ++ before)) (fold with_row s (map (named_cell names) (number_rows es))).sums) (sym (row_placed e before sums.0.0))
        (IsPermutation-trans ((part, e.1) ∷ (more ++ before)) (more ++ after) all
        (IsPermutation-trans ((part, e.1) ∷ (more ++ before)) (more ++ (part, e.1) ∷ before) (more ++ after)
        (IsPermutation-sym (more ++ (part, e.1) ∷ before) ((part, e.1) ∷ (more ++ before)) (IsPermutation-middle more (part, e.1) before))
        (IsPermutation-append_right more ((part, e.1) ∷ before) after new)) rest)

    none_before : (es : List (Spot × ℕ)) → AllByRecursion (λ (e : Spot × ℕ). AreOther e.0 []) es
    none_before [] = tt
    none_before (e ∷ es) = (tt, none_before es)

    -- named, the sums of rows are those of the rows that are named first, in another order
    pub once_named : (rows : List (CellRow ℕ)) → AllByRecursion (IsHeld names) (numbers_told key (fold with_number (record { key = key; sums = [] }) rows).sums)
        → IsPermutation (map (named_sum names key) (fold with_number (record { key = key; sums = [] }) rows).sums) (sums_by key (map (named_cell names) rows))
    once_named rows held =
        let sums : List (NumberPart × ℕ) = (fold with_number (record { key = key; sums = [] }) rows).sums in
        let named : List (Spot × ℕ) = map (named_sum names key) sums in
        let are = are_sums key rows (record { key = key; sums = [] }) refl tt in
        let sorted = are_sorted rows (record { key = key; sums = [] }) none_sorted in
        let once = stand_once sums (told_each (IsHeld names) key sums held) are sorted in
        let merged = merged_once sums [] are once (none_before named) in
        subst (λ (xs : List (Spot × ℕ)). IsPermutation xs (sums_by key (map (named_cell names) rows))) (append-nil named)
        (subst (λ (ys : List (Spot × ℕ)). IsPermutation (named ++ []) ys) (named_at_the_end names key rows) merged)
