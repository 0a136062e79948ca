-- What a report over runs of the tables is.
use Rattle.std.specs.Prelude.{◌≡◌, ◌*◌, ℕ, List, [], map, fold, slice_index, unwrap_or, IsPermutation}
use Rattle.std.specs.List.{AllByRecursion}
use Rattle.cost_reports.specs.Enough.{AreEnough}
use Rattle.cost_rows.specs.KeySums.{sums_by}
use Rattle.cost_rows.specs.declared.keys.Key.{Key}
use Rattle.cost_rows.specs.declared.rows.CellRow.{CellRow}
use Rattle.report_texts.specs.Costs.{all_rows}
use Rattle.report_texts.specs.KeyReports.{report_of}
use Rattle.report_texts.specs.KeyTexts.{key_report_text}
use Rattle.report_texts.specs.declared.cuts.Cut.{Cut}
use Rattle.run_stores.specs.Book.{IsHeld}
use Rattle.plain_tables.specs.RunRows.{cells_in}
use Rattle.plain_tables.specs.Tables.{Tables}
use Rattle.run_stores.specs.Walks.{cell_numbers}
use Rattle.selected_runs.specs.Ranked.{SumsByCost}
use Rattle.selected_runs.specs.declared.parts.NumberPart.{NumberPart}
use Rattle.selected_runs.specs.Sums.{SumsByNumber, numbers_told, numbers_total, with_number}
use Rattle.histories.specs.declared.answers.Answer.{Answer}
use Rattle.histories.specs.declared.answers.Answer.TheVariants.{Text}
use Rattle.requests.specs.Plain.{Selection}
use Rattle.histories.specs.FromTables.{AnswersBy}
use Rattle.selected_runs.specs.Counted.{event_cells}
use Rattle.selected_runs.specs.EventRuns.{AreEventRunsIn}
use Rattle.selected_runs.specs.declared.counting.Counted.{Counted}

-- ---- by the numbers of names

-- a cell as it counts in the event
abbrev pub weighted_numbers : List ℕ → CellRow ℕ → CellRow ℕ
weighted_numbers counts r = record r { event = 0; cost = slice_index counts r.event * r.cost }

-- the cells of a run are added, each as often as its column counts
abbrev pub numbers_with : Tables → ℕ → List ℕ → SumsByNumber → SumsByNumber
numbers_with t number counts sums = fold with_number sums (map (weighted_numbers counts) (map cell_numbers (cells_in number t)))

-- a run that does not have the event counts none
abbrev pub numbers_from : Tables → SumsByNumber → Counted → SumsByNumber
numbers_from t sums run = numbers_with t run.number (unwrap_or run.counts []) sums

-- of sums those that a cut can show; where others are left out, the names of all are held
pub record AreShown (t : Tables) (cut : Cut) (all : SumsByNumber) (shown : SumsByCost) : Type 0 where
  pub key : shown.key ≡ all.key
  pub total : shown.total ≡ numbers_total all.sums
  pub ranked : List (NumberPart × ℕ)
  pub moved : IsPermutation ranked all.sums
  pub enough : AreEnough (λ e. e.1) cut ranked shown.sums
  pub held : AllByRecursion (IsHeld t.names) (numbers_told all.key shown.sums) → AllByRecursion (IsHeld t.names) (numbers_told all.key all.sums)

-- ---- by names

-- the text of the report over some runs
abbrev pub report_over : Tables → List Counted → Key → List ℕ → Cut → List ℕ
report_over t runs key event cut = key_report_text event (report_of key cut (sums_by key (all_rows (map (event_cells t) runs))))

-- what is answered over the tables, whatever they represent
abbrev pub IsReported : Tables → Selection → Key → List ℕ → Cut → Answer → Type 0
IsReported t s key event cut answer = AnswersBy (AreEventRunsIn t s event) (λ runs given. given ≡ Text (report_over t runs key event cut)) answer
