-- What places cost by the names of events over runs, and what is answered of it.
use Rattle.std.proofs.Common.{◌≡◌, ℕ, List, [], ◌∷◌, map, fold, Result, Ok, Err, refl, sym, ap, subst, ◌∙◌}
use Rattle.std.specs.List.{AllByRecursion}
use Rattle.plain_tables.specs.Lists.{Has}
use Rattle.report_texts.specs.Csv.{EventSpot, NamedCells, NamesStandForEach, csv_text, with_cell_in, with_cells}
use Rattle.cost_exports.proofs.ColumnLemmas.{csv-records}
use Rattle.cost_rows.specs.WalkSums.{rows_cost}
use Rattle.cost_rows.specs.declared.rows.CellRow.{CellRow}
use Rattle.plain_tables.specs.Tables.{Tables}
use Rattle.histories.specs.Exports.{csv_of_files, named_records}
use Rattle.histories.specs.History.{History, File, held}
use Rattle.histories.specs.Legal.{expected_of_query, first_or}
use Rattle.histories.specs.Selections.{numbers_of, selected}
use Rattle.histories.specs.Representation.{TablesRepresent}
use Rattle.histories.specs.declared.answers.Answer.{Answer}
use Rattle.histories.specs.declared.answers.Answer.TheVariants.{Text, Refused}
use Rattle.requests.specs.declared.queries.Query.TheVariants as queries
use Rattle.histories.specs.declared.answers.Refusal.{Refusal}
use Rattle.requests.specs.Plain.{Selection}
use Rattle.histories.proofs.Runs.{tells_rows}
use Rattle.histories.specs.FromTables.{AnswersFor, ShowsText}
use Rattle.selected_runs.specs.Added.{AreAdded}
use Rattle.selected_runs.specs.Selected.{AreSelected, AreSelectedIn}
use Rattle.histories.proofs.Heads.{held_head_told}
use Rattle.selected_runs.proofs.RunLemmas.{selected_held}
use Rattle.selected_runs.proofs.SelectLemmas.{selected_told}
use Rattle.store_reports.specs.CsvRuns.{AddsRun, AreNamedRuns, IsCsv, IsCsvText}

-- ---- cells that are added

abbrev pub taken : List (List ℕ) × List (EventSpot × ℕ) → CellRow (List ℕ) → List (List ℕ) × List (EventSpot × ℕ)
taken m row = (m.0, with_cell_in m.0 m.1 row)

pub cells_taken : (events : List (List ℕ)) (sums : List (EventSpot × ℕ)) (cells : List (CellRow (List ℕ))) → fold taken (events, sums) cells ≡ (events, fold (with_cell_in events) sums cells)
cells_taken events sums [] = refl
cells_taken events sums (cell ∷ cells) = cells_taken events (with_cell_in events sums cell) cells

pub cells_added : {P : Type 0} (t : Tables) → P → (numbers : List ℕ) (before after : List (EventSpot × ℕ)) → AreAdded (λ number old new. P → AddsRun t number old new) numbers before after
    → (runs : List NamedCells) × AreNamedRuns t numbers runs × (after ≡ fold with_cells before runs)
cells_added t given [] before after all = ([], tt, all)
cells_added t given (number ∷ numbers) before after all =
    let one = all.1 given in
    let rest = cells_added t given numbers all.0 after all.2 in
    (one.0 ∷ rest.0, (one.1, rest.1), rest.2 ∙ ap (λ sums. fold with_cells sums rest.0) one.2)

-- ---- from runs to files

runs_named : (h : History) (t : Tables) → TablesRepresent h t → (files : List File) (runs : List NamedCells) → AllByRecursion (Has (held h)) files → AreNamedRuns t (numbers_of files) runs → NamesStandForEach (map named_records files) runs
runs_named h t represent [] [] all are = tt
runs_named h t represent [] (r ∷ runs) all are = absurd are
runs_named h t represent (f ∷ files) [] all are = absurd are
runs_named h t represent (f ∷ files) (r ∷ runs) all are =
    let one = are.0 in (
      record {
        events = one.events_are ∙ (held_head_told h t f one.head represent all.0 one.head_is).events;
        cells = λ passes k. ap (rows_cost passes k) one.cells_are ∙ (tells_rows h t represent f all.0).cells passes k;
      },
      runs_named h t represent files runs all.1 are.1,
    )

-- ---- the answers

expected_of : (h : History) (t : Tables) (s : Selection) (numbers text : List ℕ) → TablesRepresent h t → AreSelected h s (Ok numbers) → IsCsvText t numbers text → Text text ≡ expected_of_query h (queries.Csv s)
expected_of h t s numbers text represent found is =
    let files = selected h s in
    let sums = is.1 in
    let stand = runs_named h t represent files sums.0 (selected_held h s) (subst (λ ns. AreNamedRuns t ns sums.0) found.1 sums.1) in
    ap Text (is.2 ∙ ap csv_text (sums.2 ∙ csv-records (map named_records files) sums.0 stand))
    ∙ ap (λ missing. first_or (missing ∷ []) (Text (csv_of_files files))) (sym found.0)

refused_of : (h : History) (s : Selection) (refusal : Refusal) → AreSelected h s (Err refusal) → Refused refusal ≡ expected_of_query h (queries.Csv s)
refused_of h s refusal found = ap (λ missing. first_or (missing ∷ []) (Text (csv_of_files (selected h s)))) (sym found)

expected_by : (h : History) (t : Tables) (s : Selection) (found : Result (List ℕ) Refusal) (answer : Answer) → TablesRepresent h t → AreSelectedIn t s found
    → AnswersFor (λ numbers. ShowsText (IsCsvText t numbers)) found answer → answer ≡ expected_of_query h (queries.Csv s)
expected_by h t s (Ok numbers) answer represent found is = is.2 ∙ expected_of h t s numbers is.0 represent (selected_told h t s (Ok numbers) represent found) is.1
expected_by h t s (Err refusal) answer represent found is = is ∙ refused_of h s refusal (selected_told h t s (Err refusal) represent found)

pub csv_is_expected : (s : Selection) (h : History) (t : Tables) (answer : Answer) → TablesRepresent h t → IsCsv t s answer → answer ≡ expected_of_query h (queries.Csv s)
csv_is_expected s h t answer represent is = expected_by h t s is.found answer represent is.is_found is.answer_is
