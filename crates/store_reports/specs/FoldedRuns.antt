-- Stacks with their counts over runs of the tables.
use Rattle.std.specs.Prelude.{◌≡◌, ℕ, List, fold, flat_map}
use Rattle.report_texts.specs.Folded.{folded_of_rows, folded_text, with_stack}
use Rattle.cost_rows.specs.declared.rows.StackRow.{StackRow}
use Rattle.run_stores.specs.Book.{stacks_held}
use Rattle.plain_tables.specs.Tables.{Tables}
use Rattle.histories.specs.declared.answers.Answer.{Answer}
use Rattle.histories.specs.declared.answers.Answer.TheVariants.{Text}
use Rattle.requests.specs.Plain.{Selection}
use Rattle.histories.specs.FromTables.{AnswersBy}
use Rattle.selected_runs.specs.Selected.{AreSelectedIn}

-- the stacks of runs, one run after another
abbrev pub stacks_over : Tables → List ℕ → List (StackRow (List ℕ))
stacks_over t numbers = flat_map (λ n. stacks_held n t) numbers

-- the stacks of a run are added
abbrev pub stacks_from : Tables → List (List ℕ × ℕ) → ℕ → List (List ℕ × ℕ)
stacks_from t counts number = fold with_stack counts (stacks_held number t)

abbrev pub folded_over : Tables → List ℕ → List ℕ
folded_over t numbers = folded_text (folded_of_rows (stacks_over t numbers))

-- what is answered over the tables, whatever they represent
abbrev pub IsFolded : Tables → Selection → Answer → Type 0
IsFolded t s answer = AnswersBy (AreSelectedIn t s) (λ numbers given. given ≡ Text (folded_over t numbers)) answer
