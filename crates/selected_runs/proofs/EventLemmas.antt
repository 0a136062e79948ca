-- Runs that an event is asked of.
use Rattle.std.proofs.Common.{◌≡◌, ℕ, Bool, true, false, not, List, ◌∷◌, Option, Result, Ok, Err, inl, inr, refl, sym, ap, ap₂, subst, ◌∙◌}
use Rattle.std.specs.List.{list_any}
use Rattle.plain_tables.specs.Tables.{Tables}
use Rattle.histories.specs.History.{History}
use Rattle.histories.specs.Legal.{first_or, no_event, no_selection, when}
use Rattle.histories.specs.Selections.{selected}
use Rattle.histories.specs.Representation.{TablesRepresent}
use Rattle.histories.specs.declared.answers.Answer.{Answer}
use Rattle.histories.specs.declared.answers.Answer.TheVariants.{Refused}
use Rattle.histories.specs.declared.answers.Refusal.{Refusal}
use Rattle.histories.specs.declared.answers.Refusal.TheVariants.{NoSuchEvent}
use Rattle.requests.specs.Plain.{Selection}
use Rattle.selected_runs.specs.Counted.{AreCounted, has_counts}
use Rattle.selected_runs.specs.EventRuns.{AreEventRuns, AreEventRunsIn}
use Rattle.selected_runs.specs.Selected.{AreSelected, AreSelectedIn}
use Rattle.selected_runs.specs.declared.counting.Counted.{Counted}
use Rattle.selected_runs.proofs.RunLemmas.{runs_have_event}
use Rattle.selected_runs.proofs.SelectLemmas.{selected_told}

-- ---- the runs

event_of : (h : History) (t : Tables) (s : Selection) (event numbers : List ℕ) (runs : List Counted) (b : Bool) → TablesRepresent h t → AreSelected h s (Ok numbers) → AreCounted t event numbers runs
    → list_any has_counts runs ≡ b → no_event event (selected h s) ≡ when (not b) (Refused NoSuchEvent)
event_of h t s event numbers runs b represent found counted is =
    ap (λ b. when (not b) (Refused NoSuchEvent)) (sym (runs_have_event h t s event runs represent (subst (λ ns. AreCounted t event ns runs) found.1 counted)) ∙ is)

event_found : (h : History) (t : Tables) (s : Selection) (event numbers : List ℕ) (runs : List Counted) → TablesRepresent h t → AreSelected h s (Ok numbers) → AreCounted t event numbers runs
    → list_any has_counts runs ≡ true → AreEventRuns h t s event (Ok runs)
event_found h t s event numbers runs represent found counted has =
    (found.0, event_of h t s event numbers runs true represent found counted has, subst (λ ns. AreCounted t event ns runs) found.1 counted)

event_missing : (h : History) (t : Tables) (s : Selection) (event numbers : List ℕ) (runs : List Counted) → TablesRepresent h t → AreSelected h s (Ok numbers) → AreCounted t event numbers runs
    → list_any has_counts runs ≡ false → AreEventRuns h t s event (Err NoSuchEvent)
event_missing h t s event numbers runs represent found counted none =
    λ later text. ap₂ (λ a b. first_or (a ∷ b ∷ later) text) found.0 (event_of h t s event numbers runs false represent found counted none)

selection_missing : (h : History) (t : Tables) (s : Selection) (event : List ℕ) (refusal : Refusal) → AreSelected h s (Err refusal) → AreEventRuns h t s event (Err refusal)
selection_missing h t s event refusal found = λ later text. ap (λ a. first_or (a ∷ no_event event (selected h s) ∷ later) text) found

-- ---- what the tables tell of them

pub runs_found : (t : Tables) (s : Selection) (event numbers : List ℕ) (runs : List Counted) → AreSelectedIn t s (Ok numbers) → AreCounted t event numbers runs → list_any has_counts runs ≡ true
    → AreEventRunsIn t s event (Ok runs)
runs_found t s event numbers runs found counted has = (record { numbers = numbers; are_selected = found; are_counted = counted }, has)

pub runs_lacking : (t : Tables) (s : Selection) (event numbers : List ℕ) (runs : List Counted) → AreSelectedIn t s (Ok numbers) → AreCounted t event numbers runs → list_any has_counts runs ≡ false
    → AreEventRunsIn t s event (Err NoSuchEvent)
runs_lacking t s event numbers runs found counted none =
    inr (record { runs = runs; are_runs = record { numbers = numbers; are_selected = found; are_counted = counted }; none_has = none; refusal_is = refl })

pub event_runs_told : (h : History) (t : Tables) (s : Selection) (event : List ℕ) (found : Result (List Counted) Refusal) → TablesRepresent h t → AreEventRunsIn t s event found → AreEventRuns h t s event found
event_runs_told h t s event (Ok runs) represent is =
    event_found h t s event is.0.numbers runs represent (selected_told h t s (Ok is.0.numbers) represent is.0.are_selected) is.0.are_counted is.1
event_runs_told h t s event (Err refusal) represent (inl is) = selection_missing h t s event refusal (selected_told h t s (Err refusal) represent is)
event_runs_told h t s event (Err refusal) represent (inr lack) =
    let runs = lack.are_runs in
    subst (λ r. AreEventRuns h t s event (Err r)) (sym lack.refusal_is)
    (event_missing h t s event runs.numbers lack.runs represent (selected_told h t s (Ok runs.numbers) represent runs.are_selected) runs.are_counted lack.none_has)

-- neither is refused
pub both_held : (h : History) (t : Tables) (s : Selection) (event : List ℕ) (runs : List Counted) → AreEventRuns h t s event (Ok runs) → (later : List (Option Answer)) (text : Answer)
    → first_or later text ≡ first_or (no_selection h s ∷ no_event event (selected h s) ∷ later) text
both_held h t s event runs found later text = ap₂ (λ a b. first_or (a ∷ b ∷ later) text) (sym found.0) (sym found.1)
