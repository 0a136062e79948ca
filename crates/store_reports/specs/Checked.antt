-- The sums of runs beside the totals that their files state.
use Rattle.std.specs.Prelude.{◌≡◌, ℕ, List, [], ◌∷◌, ◌++◌}
use Rattle.std.specs.List.{AllByRecursion}
use Rattle.cg_formulas.specs.declared.heads.FileHead.{FileHead}
use Rattle.report_texts.specs.Verifying.{verified, verify_text}
use Rattle.plain_tables.specs.RunRows.{cells_in}
use Rattle.plain_tables.specs.Tables.{Tables}
use Rattle.run_stores.specs.Book.{CellIsNamed}
use Rattle.run_stores.specs.HeldHeads.{IsHeadIn}
use Rattle.run_stores.specs.SelfSums.{AreSelfSums, events_of_run}
use Rattle.histories.specs.declared.answers.Answer.{Answer}
use Rattle.requests.specs.Plain.{Selection}
use Rattle.histories.specs.FromTables.{AnswersBy, ShowsText}
use Rattle.selected_runs.specs.Selected.{AreSelectedIn}
use Rattle.store_reports.specs.CellSums.{AreOfCells}

-- the lines of a run: by its head, and the self sums of its events, which are those of its cells, whose names are held
pub record IsRunChecked (t : Tables) (number : ℕ) (lines : List ℕ) : Type 0 where
  pub head : FileHead
  pub head_is : IsHeadIn number t head
  pub sums : List ℕ
  pub sums_are : AreSelfSums (events_of_run number t) sums
  pub cells_are : AreOfCells (cells_in number t) sums
  pub named : AllByRecursion (CellIsNamed t.names) (cells_in number t)
  pub lines_are : lines ≡ verify_text (verified number head.events sums head.stated)

-- they were added to a text
abbrev pub IsChecked : Tables → ℕ → List ℕ → List ℕ → Type 0
IsChecked t number old new = (lines : List ℕ) × IsRunChecked t number lines × (new ≡ old ++ lines)

-- the lines of runs, in turn
abbrev pub AreChecked : Tables → List ℕ → List ℕ → Type 0
AreChecked t [] text = text ≡ []
AreChecked t (number ∷ numbers) text = (lines : List ℕ) × (more : List ℕ) × IsRunChecked t number lines × AreChecked t numbers more × (text ≡ lines ++ more)

-- what is answered over the tables, whatever they represent
abbrev pub IsVerified : Tables → Selection → Answer → Type 0
IsVerified t s answer = AnswersBy (AreSelectedIn t s) (λ numbers. ShowsText (AreChecked t numbers)) answer
