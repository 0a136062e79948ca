-- Selections that are compared, and the answers over them.
use Rattle.std.proofs.Common.{◌≡◌, ◌⊎◌, ℕ, Bool, true, false, not, ◌||◌, if◌then◌else◌, List, [], ◌∷◌, ◌++◌, Option, Some, None, option_map, Result, Ok, Err, refl, sym, ap, ap₂, subst, ◌∙◌}
use Rattle.std.specs.List.{list_any}
use Rattle.std.specs.Str.{bytes_eq}
use Rattle.cost_rows.specs.declared.keys.Key.{Key}
use Rattle.report_texts.specs.Differences.{difference_of, difference_text}
use Rattle.plain_tables.specs.Changes as tables
use Rattle.plain_tables.specs.Labels.{IsGroupName}
use Rattle.plain_tables.specs.Tables.{Tables}
use Rattle.run_stores.specs.Lookups.{IsBaselineOf}
use Rattle.histories.specs.History.{History, File, baseline}
use Rattle.histories.specs.Legal.{compared, expected_of_query, files_of, first_or, no_event, no_second, no_selection, when}
use Rattle.histories.specs.Reports.{has_event, subtract_text}
use Rattle.histories.specs.Selections.{numbers_of, selected}
use Rattle.histories.specs.Representation.{TablesRepresent}
use Rattle.histories.specs.declared.answers.Answer.{Answer}
use Rattle.histories.specs.declared.answers.Answer.TheVariants.{Text, Refused}
use Rattle.requests.specs.declared.queries.Query.TheVariants.{Subtract}
use Rattle.histories.specs.declared.answers.Refusal.{Refusal}
use Rattle.histories.specs.declared.answers.Refusal.TheVariants.{NoBaseline, NoSuchEvent}
use Rattle.requests.specs.Plain.{Selection}
use Rattle.requests.specs.declared.selections.Selection.TheVariants as selections
use Rattle.histories.proofs.Runs.{tells_group_of}
use Rattle.histories.proofs.Tests.{any-append, bytes-self}
use Rattle.histories.specs.FromTables.{AnswersBy, AnswersFor}
use Rattle.store_reports.specs.Compared.{AnswersDifference, AreBasedIn, AreCompared, AreComparedIn, IsSubtracted}
use Rattle.selected_runs.specs.Counted.{AreCounted, has_counts}
use Rattle.selected_runs.specs.Selected.{AreSelected, AreSelectedIn, IsSought}
use Rattle.selected_runs.proofs.AnyLemmas.{any_of}
use Rattle.selected_runs.proofs.RunLemmas.{runs_cost, runs_have_event}
use Rattle.selected_runs.proofs.SelectLemmas.{group_there, selected_told}

-- ---- the baseline of a group

-- the group of the text has the name, and its line tells the baseline
group_baseline : (h : History) (t : Tables) (name text : List ℕ) (base : Option ℕ) → TablesRepresent h t → (IsGroupName name → text ≡ name) → (text ≡ name) ⊎ (text ≡ []) → IsBaselineOf text t base
    → base ≡ baseline h name
group_baseline h t name text base represent named other is =
    let g = is.0 in
    let there : tables.has_group t text ≡ true = any_of (tables.is_named text) t.groups g is.1 (ap (λ n. bytes_eq n text) is.2 ∙ bytes-self text) in
    let same = group_there h t name text represent named other there in
    sym is.3 ∙ (tells_group_of h t represent name).baseline g is.1 (is.2 ∙ same)

compared_with : (h : History) (s : Selection) (found : Result (List ℕ) Refusal) → AreSelected h s found → AreCompared h (Some s) found
compared_with h s (Ok numbers) selected = selected
compared_with h s (Err refusal) selected = selected

baseline_found : (h : History) (t : Tables) (name text : List ℕ) (n : ℕ) (found : Result (List ℕ) Refusal) → TablesRepresent h t → (IsGroupName name → text ≡ name) → (text ≡ name) ⊎ (text ≡ [])
    → IsBaselineOf text t (Some n) → AreSelected h (selections.Run n) found → AreCompared h (compared h (selections.Group name) None) found
baseline_found h t name text n found represent named other is selected =
    subst (λ base. AreCompared h (option_map selections.Run base) found) (group_baseline h t name text (Some n) represent named other is) (compared_with h (selections.Run n) found selected)

no_baseline_found : (h : History) (t : Tables) (name text : List ℕ) → TablesRepresent h t → (IsGroupName name → text ≡ name) → (text ≡ name) ⊎ (text ≡ []) → IsBaselineOf text t None
    → AreCompared h (compared h (selections.Group name) None) (Err NoBaseline)
no_baseline_found h t name text represent named other is =
    subst (λ base. AreCompared h (option_map selections.Run base) (Err NoBaseline)) (group_baseline h t name text None represent named other is) refl

based_told : (h : History) (t : Tables) (name text : List ℕ) (base : Option ℕ) (found : Result (List ℕ) Refusal) → TablesRepresent h t → IsSought name text → AreBasedIn t text base found
    → AreCompared h (compared h (selections.Group name) None) found
based_told h t name text (Some n) found represent sought is = baseline_found h t name text n found represent sought.named sought.other is.0 (selected_told h t (selections.Run n) found represent is.1)
based_told h t name text None found represent sought is =
    subst (AreCompared h (compared h (selections.Group name) None)) (sym is.1) (no_baseline_found h t name text represent sought.named sought.other is.0)

compared_told : (h : History) (t : Tables) (first : Selection) (second : Option Selection) (found : Result (List ℕ) Refusal) → TablesRepresent h t → AreComparedIn t first second found
    → AreCompared h (compared h first second) found
compared_told h t first (Some second) found represent is = compared_with h second found (selected_told h t second found represent is)
compared_told h t (selections.Group name) None found represent is = based_told h t name is.text is.baseline found represent is.sought is.based
compared_told h t selections.All None found represent is = subst (AreCompared h None) (sym is) refl
compared_told h t (selections.Run n) None found represent is = subst (AreCompared h None) (sym is) refl

-- ---- the answers

either_has : (event : List ℕ) (firsts seconds : List File) (a b : Bool) → a ≡ list_any (has_event event) firsts → b ≡ list_any (has_event event) seconds
    → a || b ≡ list_any (has_event event) (firsts ++ seconds)
either_has event firsts seconds a b one two = ap₂ (λ x y. x || y) one two ∙ sym (any-append (has_event event) firsts seconds)

expected_or : (known other : Bool) (refusal text : Answer) → known ≡ other → (if known then text else refusal) ≡ first_or (when (not other) refusal ∷ []) text
expected_or true true refusal text same = refl
expected_or false false refusal text same = refl
expected_or true false refusal text same = absurd cc
expected_or false true refusal text same = absurd cc

-- over the runs of two selections
between : (h : History) (t : Tables) (first second : Selection) (key : Key) (event : List ℕ) (numbers others : List ℕ) (answer : Answer) → TablesRepresent h t
    → numbers ≡ numbers_of (selected h first) → others ≡ numbers_of (selected h second) → AnswersDifference t numbers others key event answer
    → answer ≡ first_or (no_event event (selected h first ++ selected h second) ∷ []) (Text (subtract_text key event (selected h first) (selected h second)))
between h t first second key event numbers others answer represent are others_are answers =
    let firsts : AreCounted t event (numbers_of (selected h first)) answers.firsts = subst (λ ns. AreCounted t event ns answers.firsts) are answers.firsts_are in
    let seconds : AreCounted t event (numbers_of (selected h second)) answers.seconds = subst (λ ns. AreCounted t event ns answers.seconds) others_are answers.seconds_are in
    let known = list_any has_counts answers.firsts || list_any has_counts answers.seconds in
    let text = subtract_text key event (selected h first) (selected h second) in
    answers.answer_is
    ∙ ap₂ (λ a b. if known then Text (difference_text event (difference_of key a b)) else Refused NoSuchEvent)
    (runs_cost h t first key event answers.firsts represent firsts) (runs_cost h t second key event answers.seconds represent seconds)
    ∙ expected_or known (list_any (has_event event) (selected h first ++ selected h second)) (Refused NoSuchEvent) (Text text)
    (either_has event (selected h first) (selected h second) _ _ (runs_have_event h t first event answers.firsts represent firsts) (runs_have_event h t second event answers.seconds represent seconds))

-- the text, where neither selection is refused
abbrev text_of : History → Key → List ℕ → Selection → Option Selection → Answer
text_of h key event first c = Text (subtract_text key event (selected h first) (files_of h c))

compared_expected : (h : History) (t : Tables) (first : Selection) (c : Option Selection) (key : Key) (event : List ℕ) (numbers others : List ℕ) (answer : Answer) → TablesRepresent h t
    → AreSelected h first (Ok numbers) → AreCompared h c (Ok others) → AnswersDifference t numbers others key event answer
    → answer ≡ first_or (no_selection h first ∷ no_second h c ∷ no_event event (selected h first ++ files_of h c) ∷ []) (text_of h key event first c)
compared_expected h t first None key event numbers others answer represent found with_it answers = absurd (let e = with_it.0 in cc)
compared_expected h t first (Some second) key event numbers others answer represent found with_it answers =
    between h t first second key event numbers others answer represent found.1 with_it.1 answers
    ∙ ap₂ (λ a b. first_or (a ∷ b ∷ no_event event (selected h first ++ selected h second) ∷ []) (text_of h key event first (Some second))) (sym found.0) (sym with_it.0)

subtract_is_expected : (h : History) (t : Tables) (first : Selection) (second : Option Selection) (key : Key) (event : List ℕ) (numbers others : List ℕ) (answer : Answer) → TablesRepresent h t
    → AreSelected h first (Ok numbers) → AreCompared h (compared h first second) (Ok others) → AnswersDifference t numbers others key event answer → answer ≡ expected_of_query h (Subtract first second key event)
subtract_is_expected h t first second key event numbers others answer represent found with_it answers =
    compared_expected h t first (compared h first second) key event numbers others answer represent found with_it answers

first_is_refused : (h : History) (first : Selection) (second : Option Selection) (key : Key) (event : List ℕ) (refusal : Refusal) → AreSelected h first (Err refusal)
    → Refused refusal ≡ expected_of_query h (Subtract first second key event)
first_is_refused h first second key event refusal found =
    let c = compared h first second in
    ap (λ a. first_or (a ∷ no_second h c ∷ no_event event (selected h first ++ files_of h c) ∷ []) (text_of h key event first c)) (sym found)

second_is_refused : (h : History) (first : Selection) (second : Option Selection) (key : Key) (event : List ℕ) (numbers : List ℕ) (refusal : Refusal) → AreSelected h first (Ok numbers)
    → AreCompared h (compared h first second) (Err refusal) → Refused refusal ≡ expected_of_query h (Subtract first second key event)
second_is_refused h first second key event numbers refusal found with_it =
    let c = compared h first second in
    ap₂ (λ a b. first_or (a ∷ b ∷ no_event event (selected h first ++ files_of h c) ∷ []) (text_of h key event first c)) (sym found.0) (sym with_it)

-- ---- over tables

expected_by : (h : History) (t : Tables) (first : Selection) (second : Option Selection) (key : Key) (event : List ℕ) (numbers : List ℕ) (others : Result (List ℕ) Refusal) (answer : Answer) → TablesRepresent h t
    → AreSelected h first (Ok numbers) → AreComparedIn t first second others → AnswersFor (λ ns. AnswersDifference t numbers ns key event) others answer
    → answer ≡ expected_of_query h (Subtract first second key event)
expected_by h t first second key event numbers (Ok others) answer represent found with_it is =
    subtract_is_expected h t first second key event numbers others answer represent found (compared_told h t first second (Ok others) represent with_it) is
expected_by h t first second key event numbers (Err refusal) answer represent found with_it is =
    is ∙ second_is_refused h first second key event numbers refusal found (compared_told h t first second (Err refusal) represent with_it)

expected_of : (h : History) (t : Tables) (first : Selection) (second : Option Selection) (key : Key) (event : List ℕ) (numbers : Result (List ℕ) Refusal) (answer : Answer) → TablesRepresent h t
    → AreSelectedIn t first numbers
    → AnswersFor (λ ns given. AnswersBy (AreComparedIn t first second) (λ others. AnswersDifference t ns others key event) given) numbers answer
    → answer ≡ expected_of_query h (Subtract first second key event)
expected_of h t first second key event (Ok numbers) answer represent found is =
    expected_by h t first second key event numbers is.found answer represent (selected_told h t first (Ok numbers) represent found) is.is_found is.answer_is
expected_of h t first second key event (Err refusal) answer represent found is =
    is ∙ first_is_refused h first second key event refusal (selected_told h t first (Err refusal) represent found)

pub subtracted_is_expected : (first : Selection) (second : Option Selection) (key : Key) (event : List ℕ) (h : History) (t : Tables) (answer : Answer) → TablesRepresent h t
    → IsSubtracted t first second key event answer → answer ≡ expected_of_query h (Subtract first second key event)
subtracted_is_expected first second key event h t answer represent is = expected_of h t first second key event is.found answer represent is.is_found is.answer_is
