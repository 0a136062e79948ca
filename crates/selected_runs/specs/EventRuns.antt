-- The runs of a selection that an event is asked of.
use Rattle.std.specs.Prelude.{◌≡◌, ◌⊎◌, ℕ, true, false, List, ◌∷◌, Option, None, Result, Ok, Err}
use Rattle.std.specs.List.{list_any}
use Rattle.plain_tables.specs.Tables.{Tables}
use Rattle.histories.specs.History.{History}
use Rattle.histories.specs.Legal.{first_or, no_event, no_selection}
use Rattle.histories.specs.Selections.{numbers_of, selected}
use Rattle.histories.specs.declared.answers.Answer.{Answer}
use Rattle.histories.specs.declared.answers.Answer.TheVariants.{Refused}
use Rattle.histories.specs.declared.answers.Refusal.{Refusal}
use Rattle.histories.specs.declared.answers.Refusal.TheVariants.{NoSuchEvent}
use Rattle.requests.specs.Plain.{Selection}
use Rattle.selected_runs.specs.Counted.{AreCounted, has_counts}
use Rattle.selected_runs.specs.Selected.{AreSelectedIn}
use Rattle.selected_runs.specs.declared.counting.Counted.{Counted}

-- ---- in tables, whatever they represent

-- the runs of a selection, with how often their events count in the one that is asked
pub record AreRunsIn (t : Tables) (s : Selection) (event : List ℕ) (runs : List Counted) : Type 0 where
  pub numbers : List ℕ
  pub are_selected : AreSelectedIn t s (Ok numbers)
  pub are_counted : AreCounted t event numbers runs

-- none of them has the event
pub record LackEvent (t : Tables) (s : Selection) (event : List ℕ) (refusal : Refusal) : Type 0 where
  pub runs : List Counted
  pub are_runs : AreRunsIn t s event runs
  pub none_has : list_any has_counts runs ≡ false
  pub refusal_is : refusal ≡ NoSuchEvent

-- runs of which one has the event, or why there are none
abbrev pub AreEventRunsIn : Tables → Selection → List ℕ → Result (List Counted) Refusal → Type 0
AreEventRunsIn t s event (Ok runs) = AreRunsIn t s event runs × (list_any has_counts runs ≡ true)
AreEventRunsIn t s event (Err refusal) = AreSelectedIn t s (Err refusal) ⊎ LackEvent t s event refusal

-- ---- after a history

-- the selection is held and has the event, and these are its runs; or why it is refused, whatever else is looked at later
abbrev pub AreEventRuns : History → Tables → Selection → List ℕ → Result (List Counted) Refusal → Type 0
AreEventRuns h t s event (Ok runs) =
    (no_selection h s ≡ None) × (no_event event (selected h s) ≡ None) × AreCounted t event (numbers_of (selected h s)) runs
AreEventRuns h t s event (Err refusal) =
    (later : List (Option Answer)) (text : Answer) → first_or (no_selection h s ∷ no_event event (selected h s) ∷ later) text ≡ Refused refusal
