-- The answers to questions by key.
use Rattle.std.proofs.Common.{◌≡◌, ℕ, List, [], Result, Ok, Err, refl, sym, ap, ◌∙◌}
use Rattle.cost_rows.specs.declared.keys.Key.{Key}
use Rattle.report_texts.specs.KeyReports.{report_of}
use Rattle.report_texts.specs.KeyTexts.{key_report_text}
use Rattle.report_texts.specs.declared.cuts.Cut.{Cut}
use Rattle.plain_tables.specs.Tables.{Tables}
use Rattle.histories.specs.History.{History}
use Rattle.histories.specs.Legal.{expected_of_query}
use Rattle.histories.specs.Reports.{by_text}
use Rattle.histories.specs.Selections.{selected}
use Rattle.histories.specs.Representation.{TablesRepresent}
use Rattle.histories.specs.declared.answers.Answer.{Answer}
use Rattle.histories.specs.declared.answers.Answer.TheVariants.{Text, Refused}
use Rattle.requests.specs.declared.queries.Query.TheVariants.{By}
use Rattle.histories.specs.declared.answers.Refusal.{Refusal}
use Rattle.requests.specs.Plain.{Selection}
use Rattle.histories.specs.FromTables.{AnswersFor}
use Rattle.selected_runs.specs.EventRuns.{AreEventRuns, AreEventRunsIn}
use Rattle.selected_runs.specs.declared.counting.Counted.{Counted}
use Rattle.selected_runs.proofs.EventLemmas.{both_held, event_runs_told}
use Rattle.selected_runs.proofs.RunLemmas.{runs_cost}
use Rattle.store_reports.specs.Reported.{IsReported, report_over}

by_is_expected : (h : History) (t : Tables) (s : Selection) (key : Key) (event : List ℕ) (cut : Cut) (runs : List Counted) (text : List ℕ) → TablesRepresent h t → AreEventRuns h t s event (Ok runs)
    → text ≡ report_over t runs key event cut → Text text ≡ expected_of_query h (By s key event cut)
by_is_expected h t s key event cut runs text represent found is =
    ap Text (is ∙ ap (λ sums. key_report_text event (report_of key cut sums)) (runs_cost h t s key event runs represent found.2))
    ∙ both_held h t s event runs found [] (Text (by_text (selected h s) key event cut))

by_is_refused : (h : History) (t : Tables) (s : Selection) (key : Key) (event : List ℕ) (cut : Cut) (refusal : Refusal) → AreEventRuns h t s event (Err refusal)
    → Refused refusal ≡ expected_of_query h (By s key event cut)
by_is_refused h t s key event cut refusal found = sym (found [] (Text (by_text (selected h s) key event cut)))

expected_by : (h : History) (t : Tables) (s : Selection) (key : Key) (event : List ℕ) (cut : Cut) (found : Result (List Counted) Refusal) (answer : Answer) → TablesRepresent h t → AreEventRunsIn t s event found
    → AnswersFor (λ runs given. given ≡ Text (report_over t runs key event cut)) found answer → answer ≡ expected_of_query h (By s key event cut)
expected_by h t s key event cut (Ok runs) answer represent found is = is ∙ by_is_expected h t s key event cut runs _ represent (event_runs_told h t s event (Ok runs) represent found) refl
expected_by h t s key event cut (Err refusal) answer represent found is = is ∙ by_is_refused h t s key event cut refusal (event_runs_told h t s event (Err refusal) represent found)

pub reported_is_expected : (s : Selection) (key : Key) (event : List ℕ) (cut : Cut) (h : History) (t : Tables) (answer : Answer) → TablesRepresent h t → IsReported t s key event cut answer
    → answer ≡ expected_of_query h (By s key event cut)
reported_is_expected s key event cut h t answer represent is = expected_by h t s key event cut is.found answer represent is.is_found is.answer_is
