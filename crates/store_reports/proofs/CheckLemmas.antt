-- The lines of runs that are checked are those of the files of a selection.
use Rattle.std.proofs.Common.{◌≡◌, ℕ, suc, List, [], ◌∷◌, ◌++◌, map, Result, Ok, Err, append_assoc, append-nil, refl, sym, ap, ap₂, subst, ◌∙◌, IsPermutation}
use Rattle.std.specs.List.{AllByRecursion}
use Rattle.plain_tables.specs.Lists.{Has}
use Rattle.report_texts.specs.Verifying.{verified, verify_text}
use Rattle.plain_tables.specs.Tables.{Tables}
use Rattle.run_stores.specs.SelfSums.{AreSelfSums, PlacedSum, events_of_run, self_of_line, sums_from}
use Rattle.histories.specs.Files.{events_of}
use Rattle.histories.specs.History.{History, File, held}
use Rattle.histories.specs.Legal.{expected_of_query, first_or}
use Rattle.histories.specs.Reports.{file_verified, self_columns, self_columns_from, verified_text}
use Rattle.histories.specs.Selections.{numbers_of, selected}
use Rattle.histories.specs.Representation.{TablesRepresent, event_rows_from}
use Rattle.histories.specs.Sums.{self_column}
use Rattle.histories.specs.declared.answers.Answer.{Answer}
use Rattle.histories.specs.declared.answers.Answer.TheVariants.{Text, Refused}
use Rattle.requests.specs.declared.queries.Query.TheVariants.{Verify}
use Rattle.histories.specs.declared.answers.Refusal.{Refusal}
use Rattle.requests.specs.Plain.{Selection}
use Rattle.store_reports.specs.Checked.{IsChecked, IsRunChecked, IsVerified, AreChecked}
use Rattle.histories.specs.FromTables.{AnswersFor, ShowsText}
use Rattle.selected_runs.specs.Added.{AreAdded}
use Rattle.selected_runs.specs.Selected.{AreSelected, AreSelectedIn}
use Rattle.histories.proofs.Heads.{Count, held_head_told, same_order, verified_told}
use Rattle.histories.proofs.Runs.{run_of}
use Rattle.selected_runs.proofs.RunLemmas.{selected_held}
use Rattle.selected_runs.proofs.SelectLemmas.{selected_told}

-- ---- one after another

pub lines_added : {M P : Type 0} (items : M → List ℕ) (t : Tables) → P → (numbers : List ℕ) (before after : M) → AreAdded (λ number old new. P → IsChecked t number (items old) (items new)) numbers before after
    → (text : List ℕ) × AreChecked t numbers text × (items after ≡ items before ++ text)
lines_added items t given [] before after all = ([], refl, ap items all ∙ sym (append-nil (items before)))
lines_added items t given (number ∷ numbers) before after all =
    let one = all.1 given in
    let rest = lines_added items t given numbers all.0 after all.2 in
    (one.0 ++ rest.0, (one.0, rest.0, one.1, rest.1, refl), rest.2 ∙ ap (λ l. l ++ rest.0) one.2 ∙ append_assoc (items before) one.0 rest.0)

-- ---- of one file

-- the lines of a file have the sums of its columns, by place
self_of_lines : (f : File) (place : ℕ) (events : List (List ℕ)) → map self_of_line (event_rows_from f place events) ≡ sums_from place (self_columns_from f place events)
self_of_lines f place [] = refl
self_of_lines f place (event ∷ events) = ap (λ l. let s : PlacedSum = record { place = place; sum = self_column f.format f.bytes place } in s ∷ l) (self_of_lines f (suc place) events)

sums_count : (place : ℕ) (sums : List ℕ) → Count (λ (s : PlacedSum). s.place) place (sums_from place sums)
sums_count place [] = tt
sums_count place (sum ∷ sums) = (refl, sums_count (suc place) sums)

sums_back : (place : ℕ) (sums : List ℕ) → map (λ (s : PlacedSum). s.sum) (sums_from place sums) ≡ sums
sums_back place [] = refl
sums_back place (sum ∷ sums) = ap (λ l. sum ∷ l) (sums_back (suc place) sums)

self_told : (h : History) (t : Tables) (f : File) (sums : List ℕ) → TablesRepresent h t → Has (held h) f → AreSelfSums (events_of_run f.number t) sums → sums ≡ self_columns f
self_told h t f sums represent there are =
    let run = run_of t t.runs (held h) f represent.runs there in
    let events = events_of f.format f.bytes in
    let lines : events_of_run f.number t ≡ event_rows_from f 0 events = ap (λ n. events_of_run n t) (sym run.book.number) ∙ run.book.events in
    let mixed : IsPermutation (sums_from 0 (self_columns f)) (sums_from 0 sums) =
    subst (λ l. IsPermutation l (sums_from 0 sums)) (self_of_lines f 0 events) (subst (λ l. AreSelfSums l sums) lines are) in
    let same = same_order (λ (s : PlacedSum). s.place) 0 (sums_from 0 (self_columns f)) (sums_from 0 sums) (sums_count 0 (self_columns f)) (sums_count 0 sums) mixed in
    sym (sums_back 0 sums) ∙ sym (ap (map (λ (s : PlacedSum). s.sum)) same) ∙ sums_back 0 (self_columns f)

run_told : (h : History) (t : Tables) (f : File) (lines : List ℕ) → TablesRepresent h t → Has (held h) f → IsRunChecked t f.number lines → lines ≡ file_verified f
run_told h t f lines represent there run =
    run.lines_are ∙ ap verify_text (verified_told f run.head f.number run.sums (held_head_told h t f run.head represent there run.head_is))
    ∙ ap (λ sums. verify_text (verified f.number (events_of f.format f.bytes) sums _)) (self_told h t f run.sums represent there run.sums_are)

-- ---- of a selection

runs_told : (h : History) (t : Tables) (files : List File) (text : List ℕ) → TablesRepresent h t → AllByRecursion (Has (held h)) files → AreChecked t (numbers_of files) text → text ≡ verified_text files
runs_told h t [] text represent all checked = checked
runs_told h t (f ∷ files) text represent all checked =
    checked.4 ∙ ap₂ ◌++◌ (run_told h t f checked.0 represent all.0 checked.2) (runs_told h t files checked.1 represent all.1 checked.3)

verify_is_expected : (h : History) (t : Tables) (s : Selection) (numbers : List ℕ) (text : List ℕ) → TablesRepresent h t → AreSelected h s (Ok numbers) → AreChecked t numbers text → Text text ≡ expected_of_query h (Verify s)
verify_is_expected h t s numbers text represent found checked =
    ap Text (runs_told h t (selected h s) text represent (selected_held h s) (subst (λ ns. AreChecked t ns text) found.1 checked))
    ∙ ap (λ missing. first_or (missing ∷ []) (Text (verified_text (selected h s)))) (sym found.0)

verify_is_refused : (h : History) (s : Selection) (refusal : Refusal) → AreSelected h s (Err refusal) → Refused refusal ≡ expected_of_query h (Verify s)
verify_is_refused h s refusal found = ap (λ missing. first_or (missing ∷ []) (Text (verified_text (selected h s)))) (sym found)

expected_by : (h : History) (t : Tables) (s : Selection) (found : Result (List ℕ) Refusal) (answer : Answer) → TablesRepresent h t → AreSelectedIn t s found
    → AnswersFor (λ numbers. ShowsText (AreChecked t numbers)) found answer → answer ≡ expected_of_query h (Verify s)
expected_by h t s (Ok numbers) answer represent found is = is.2 ∙ verify_is_expected h t s numbers is.0 represent (selected_told h t s (Ok numbers) represent found) is.1
expected_by h t s (Err refusal) answer represent found is = is ∙ verify_is_refused h s refusal (selected_told h t s (Err refusal) represent found)

pub verified_is_expected : (s : Selection) (h : History) (t : Tables) (answer : Answer) → TablesRepresent h t → IsVerified t s answer → answer ≡ expected_of_query h (Verify s)
verified_is_expected s h t answer represent is = expected_by h t s is.found answer represent is.is_found is.answer_is
