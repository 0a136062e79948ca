-- Differences over runs of the tables.
use Rattle.std.specs.Prelude.{◌≡◌, ◌||◌, ℕ, if◌then◌else◌, List, map, Option, Some, None, Result, Ok, Err}
use Rattle.std.specs.List.{list_any}
use Rattle.cost_rows.specs.KeySums.{sums_by}
use Rattle.cost_rows.specs.Sums.{Spot}
use Rattle.cost_rows.specs.declared.keys.Key.{Key}
use Rattle.report_texts.specs.Costs.{all_rows}
use Rattle.report_texts.specs.Differences.{difference_of, difference_text}
use Rattle.plain_tables.specs.Tables.{Tables, NameRow}
use Rattle.run_stores.specs.Lookups.{IsBaselineOf}
use Rattle.run_stores.specs.Names.{named_cell}
use Rattle.selected_runs.specs.Sums.{SumsByNumber, number_rows}
use Rattle.histories.specs.History.{History}
use Rattle.histories.specs.Legal.{files_of, no_second}
use Rattle.histories.specs.Selections.{numbers_of}
use Rattle.histories.specs.declared.answers.Answer.{Answer}
use Rattle.histories.specs.declared.answers.Answer.TheVariants.{Text, Refused}
use Rattle.histories.specs.declared.answers.Refusal.{Refusal}
use Rattle.histories.specs.declared.answers.Refusal.TheVariants.{NoBaseline, NoSuchEvent}
use Rattle.requests.specs.Plain.{Selection}
use Rattle.requests.specs.declared.selections.Selection.TheVariants as selections
use Rattle.histories.specs.FromTables.{AnswersBy}
use Rattle.selected_runs.specs.Counted.{AreCounted, event_cells, has_counts}
use Rattle.selected_runs.specs.Selected.{AreSelectedIn, IsSought, run_in}
use Rattle.selected_runs.specs.declared.counting.Counted.{Counted}

-- ---- in tables, whatever they represent

-- the baseline of a group, as a selection of one run
abbrev pub AreBasedIn : Tables → List ℕ → Option ℕ → Result (List ℕ) Refusal → Type 0
AreBasedIn t text (Some n) found = IsBaselineOf text t (Some n) × (found ≡ run_in t n)
AreBasedIn t text None found = IsBaselineOf text t None × (found ≡ Err NoBaseline)

pub record AreBaselineIn (t : Tables) (name : List ℕ) (found : Result (List ℕ) Refusal) : Type 0 where
  pub text : List ℕ
  pub sought : IsSought name text
  pub baseline : Option ℕ
  pub based : AreBasedIn t text baseline found

-- the runs that a selection is compared with: of the second, or else the baseline of the first
abbrev pub AreComparedIn : Tables → Selection → Option Selection → Result (List ℕ) Refusal → Type 0
AreComparedIn t first (Some second) found = AreSelectedIn t second found
AreComparedIn t (selections.Group name) None found = AreBaselineIn t name found
AreComparedIn t selections.All None found = found ≡ Err NoBaseline
AreComparedIn t (selections.Run n) None found = found ≡ Err NoBaseline

-- ---- after a history

-- the numbers of the files of a selection that another is compared with, if there is one; or why there are none
abbrev pub AreCompared : History → Option Selection → Result (List ℕ) Refusal → Type 0
AreCompared h second (Ok numbers) = (no_second h second ≡ None) × (numbers ≡ numbers_of (files_of h second))
AreCompared h second (Err refusal) = no_second h second ≡ Some (Refused refusal)

-- ---- the differences

-- sums by number, with names in place
abbrev pub named_sums : List NameRow → SumsByNumber → List (Spot × ℕ)
named_sums names sums = sums_by sums.key (map (named_cell names) (number_rows sums.sums))

-- what the cells of runs cost in the event, by key
abbrev pub costs_over : Tables → Key → List Counted → List (Spot × ℕ)
costs_over t key runs = sums_by key (all_rows (map (event_cells t) runs))

abbrev pub difference_over : Tables → List Counted → List Counted → Key → List ℕ → List ℕ
difference_over t firsts seconds key event = difference_text event (difference_of key (costs_over t key firsts) (costs_over t key seconds))

-- what is answered over the runs of some numbers and those of others
pub record AnswersDifference (t : Tables) (numbers others : List ℕ) (key : Key) (event : List ℕ) (answer : Answer) : Type 0 where
  pub firsts : List Counted
  pub firsts_are : AreCounted t event numbers firsts
  pub seconds : List Counted
  pub seconds_are : AreCounted t event others seconds
  pub answer_is : answer ≡ (if list_any has_counts firsts || list_any has_counts seconds then Text (difference_over t firsts seconds key event) else Refused NoSuchEvent)

-- what is answered over the tables, whatever they represent
abbrev pub IsSubtracted : Tables → Selection → Option Selection → Key → List ℕ → Answer → Type 0
IsSubtracted t first second key event answer =
    AnswersBy (AreSelectedIn t first) (λ numbers given. AnswersBy (AreComparedIn t first second) (λ others. AnswersDifference t numbers others key event) given) answer
