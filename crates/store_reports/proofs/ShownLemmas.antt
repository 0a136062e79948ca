-- The report of sums that a cut can show is that of all sums.
use Rattle.std.proofs.Common.{◌≡◌, ℕ, ◌+◌, ◌≤◌, List, [], ◌∷◌, ◌++◌, map, fold, length, IsPermutation, refl, sym, ap, subst, ◌∙◌, arith, append-nil}
use Rattle.std.specs.List.{AllByRecursion}
use Rattle.std.proofs.lemmas.List.{length-append}
use Rattle.std.proofs.lemmas.List.Sorted.{IsPermutation-trans, length_permutation}
use Rattle.cost_rows.specs.KeySums.{sums_by, total_of}
use Rattle.cost_rows.specs.Sums.{Spot}
use Rattle.cost_rows.specs.declared.keys.Key.{Key}
use Rattle.report_texts.specs.KeyReports.{report_of}
use Rattle.report_texts.specs.KeyTexts.{key_report_text}
use Rattle.report_texts.specs.declared.cuts.Cut.{Cut}
use Rattle.cost_reports.specs.Enough.{AreEnough}
use Rattle.cost_reports.proofs.EnoughLemmas.{same_total}
use Rattle.run_stores.specs.Book.{IsHeld}
use Rattle.plain_tables.specs.Tables.{Tables, NameRow}
use Rattle.run_stores.specs.Names.{AreApart, named_cell}
use Rattle.selected_runs.specs.Named.{AreOf, named_sum}
use Rattle.selected_runs.specs.Ranked.{SumsByCost}
use Rattle.selected_runs.specs.Sums.{SumsByNumber, numbers_told, numbers_total, with_number}
use Rattle.selected_runs.specs.declared.parts.NumberPart.{NumberPart}
use Rattle.selected_runs.proofs.EnoughNamed.{enough_named}
use Rattle.selected_runs.proofs.NamedLemmas.{named_by_all}
use Rattle.selected_runs.proofs.OnceNamed.{once_named}
use Rattle.selected_runs.proofs.ToldLemmas.{told_moved}
use Rattle.selected_runs.specs.declared.counting.Counted.{Counted}
use Rattle.store_reports.specs.Reported.{AreShown, numbers_from, report_over}
use Rattle.store_reports.proofs.MergeLemmas.{key_is, numbers_of, runs_named, sums_are}

-- ---- as many as all

module _ {X : Type 0} (cost : X → ℕ) (cut : Cut) (all some : List X) where
  none_left : (others : List X) → length others ≤ 0 → IsPermutation (some ++ others) all → IsPermutation some all
  none_left [] short are = subst (λ l. IsPermutation l all) (append-nil some) are
  none_left (x ∷ others) short are = absurd (omega (arith, short))

  all_of_them : AreEnough cost cut all some → length all ≤ length some → IsPermutation some all
  all_of_them enough many =
      let long = length_permutation (some ++ enough.others) all enough.are_all in
      let both = length-append some enough.others in
      none_left enough.others (omega (arith, long, both, many)) enough.are_all

-- where as many as all are shown, they tell what all tell
pub held_of_all : (names : List NameRow) (key : Key) (cut : Cut) (ranked all some : List (NumberPart × ℕ)) → IsPermutation ranked all → AreEnough (λ e. e.1) cut ranked some → length ranked ≤ length some
    → AllByRecursion (IsHeld names) (numbers_told key some) → AllByRecursion (IsHeld names) (numbers_told key all)
held_of_all names key cut ranked all some moved enough many held =
    told_moved (IsHeld names) key some all (IsPermutation-trans some ranked all (all_of_them (λ e. e.1) cut ranked some enough many) moved) held

-- ---- the report

all_held : (all some : List NameRow) → AreOf all some → (numbers : List ℕ) → AllByRecursion (IsHeld some) numbers → AllByRecursion (IsHeld all) numbers
all_held all some are [] held = tt
all_held all some are (n ∷ numbers) held = ((are n held.0).0, all_held all some are numbers held.1)

pub named_total : (names : List NameRow) (key : Key) (sums : List (NumberPart × ℕ)) → total_of (map (named_sum names key) sums) ≡ numbers_total sums
named_total names key [] = refl
named_total names key (e ∷ sums) = ap (λ n. e.1 + n) (named_total names key sums)

-- the text is the report of whatever sums these are enough of
abbrev pub TellsReport : List ℕ → List ℕ → Cut → List NameRow → Key → ℕ → List (NumberPart × ℕ) → Type 0
TellsReport text event cut names key total shown =
    (all : List (Spot × ℕ)) → total_of all ≡ total → AreEnough (λ e. e.1) cut all (map (named_sum names key) shown) → text ≡ key_report_text event (report_of key cut all)

module _ (t : Tables) (apart : AreApart t.names) (key : Key) (event : List ℕ) (cut : Cut) (runs : List Counted) (some : List NameRow) (are_of : AreOf t.names some) (text : List ℕ) where
  report_named : (sums ranked shown : List (NumberPart × ℕ)) (total : ℕ) → sums ≡ (fold with_number (record { key = key; sums = [] }) (numbers_of t runs)).sums → total ≡ numbers_total sums → IsPermutation ranked sums
      → AreEnough (λ e. e.1) cut ranked shown → AllByRecursion (IsHeld some) (numbers_told key shown) → AllByRecursion (IsHeld t.names) (numbers_told key sums) → TellsReport text event cut some key total shown
      → text ≡ report_over t runs key event cut
  report_named sums ranked shown total are whole moved enough held held_all told =
      let rows = numbers_of t runs in
      let by_number : List (NumberPart × ℕ) = (fold with_number (record { key = key; sums = [] }) rows).sums in
      let by_name : List (Spot × ℕ) = sums_by key (map (named_cell t.names) rows) in
      let all_told : AllByRecursion (IsHeld t.names) (numbers_told key by_number) = subst (λ l. AllByRecursion (IsHeld t.names) (numbers_told key l)) are held_all in
      let named_enough = enough_named t.names key cut rows ranked shown apart all_told (subst (IsPermutation ranked) are moved) enough in
      let given = subst (AreEnough (λ (e : Spot × ℕ). e.1) cut by_name) (sym (named_by_all t.names some are_of key shown held)) named_enough in
      let sum : total_of by_name ≡ total = same_total (map (named_sum t.names key) by_number) by_name (once_named t.names apart key rows all_told) ∙ named_total t.names key by_number ∙ ap numbers_total (sym are) ∙ sym whole in
      told by_name sum given ∙ ap (λ l. key_report_text event (report_of key cut (sums_by key l))) (runs_named t runs)

  pub report_shown : (sums : SumsByNumber) (shown : SumsByCost) → sums ≡ fold (numbers_from t) (record { key = key; sums = [] }) runs → AreShown t cut sums shown
      → AllByRecursion (IsHeld some) (numbers_told shown.key shown.sums) → TellsReport text event cut some shown.key shown.total shown.sums → text ≡ report_over t runs key event cut
  report_shown sums shown are is held told =
      let by_key : sums.key ≡ key = key_is t key runs sums are in
      let shown_key : shown.key ≡ key = is.key ∙ by_key in
      let held_some : AllByRecursion (IsHeld some) (numbers_told key shown.sums) = subst (λ k. AllByRecursion (IsHeld some) (numbers_told k shown.sums)) shown_key held in
      let held_shown = all_held t.names some are_of (numbers_told key shown.sums) held_some in
      let held_all = is.held (subst (λ k. AllByRecursion (IsHeld t.names) (numbers_told k shown.sums)) (sym by_key) held_shown) in
      report_named sums.sums is.ranked shown.sums shown.total (ap (λ (s : SumsByNumber). s.sums) (sums_are t key runs sums are)) is.total is.moved is.enough held_some
      (subst (λ k. AllByRecursion (IsHeld t.names) (numbers_told k sums.sums)) by_key held_all)
      (subst (λ k. TellsReport text event cut some k shown.total shown.sums) shown_key told)
