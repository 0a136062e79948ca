-- A source with what its lines cost over runs of the tables.
use Rattle.std.specs.Prelude.{◌≡◌, ℕ, if◌then◌else◌, List, [], map, fold, Option, Some, None, unwrap_or}
use Rattle.report_texts.specs.Annotations.{FileCosts, annotation_of, annotation_text, no_lines, with_line}
use Rattle.report_texts.specs.Costs.{all_rows, weighted}
use Rattle.cost_rows.specs.declared.rows.CellRow.{CellRow}
use Rattle.run_stores.specs.Book.{cells_held}
use Rattle.plain_tables.specs.RunRows.{cells_in}
use Rattle.plain_tables.specs.Tables.{Tables}
use Rattle.run_stores.specs.Names.{is_number}
use Rattle.run_stores.specs.Walks.{cell_numbers}
use Rattle.histories.specs.declared.answers.Answer.{Answer}
use Rattle.requests.specs.Plain.{Selection}
use Rattle.histories.specs.FromTables.{AnswersBy, text_or_no_name}
use Rattle.selected_runs.specs.Counted.{event_cells}
use Rattle.selected_runs.specs.EventRuns.{AreEventRunsIn}
use Rattle.selected_runs.specs.declared.counting.Counted.{Counted}

-- the cells of a run are added; in a run without the event they cost nothing
abbrev pub lines_from : Tables → FileCosts → Counted → FileCosts
lines_from t costs run = fold with_line costs (map (weighted (unwrap_or run.counts [])) (cells_held run.number t))

-- a cell of a file: of its names only this one counts
abbrev pub file_cell : List ℕ → CellRow ℕ → CellRow (List ℕ)
file_cell name r = record { object = []; file = name; function = []; line = r.line; thread = r.thread; event = r.event; cost = r.cost }

-- a cell is added if its file has this number, that of the name
abbrev pub with_numbered : Option ℕ → List ℕ → List ℕ → FileCosts → CellRow ℕ → FileCosts
with_numbered number name counts costs r = if is_number number r.file then with_line costs (weighted counts (file_cell name r)) else costs

-- and those of a run
abbrev pub numbered_from : Tables → Option ℕ → List ℕ → FileCosts → Counted → FileCosts
numbered_from t number name costs run = fold (with_numbered number name (unwrap_or run.counts [])) costs (map cell_numbers (cells_in run.number t))

-- what the lines of a file cost over runs
abbrev pub lines_over : Tables → List Counted → List ℕ → FileCosts
lines_over t runs name = fold with_line (no_lines name) (all_rows (map (event_cells t) runs))

-- the text, if one of the runs knows the file
abbrev pub annotated_if_known : List ℕ → List ℕ → FileCosts → Option (List ℕ)
annotated_if_known event source costs = if costs.known then Some (annotation_text event (annotation_of costs.file source costs.costs)) else None

abbrev pub annotated_over : Tables → List Counted → List ℕ → List ℕ → List ℕ → Option (List ℕ)
annotated_over t runs event name source = annotated_if_known event source (lines_over t runs name)

-- what is answered over the tables, whatever they represent
abbrev pub IsAnnotated : Tables → Selection → List ℕ → List ℕ → List ℕ → Answer → Type 0
IsAnnotated t s event name source answer = AnswersBy (AreEventRunsIn t s event) (λ runs given. given ≡ text_or_no_name (annotated_over t runs event name source)) answer
