-- A command that asks and then changes the tables.
use Rattle.std.proofs.Common.{◌≡◌, Bool, true, refl, Some}
use Rattle.run_stores.specs.declared.states.StoreState.{Ghosts}
use Rattle.run_stores.specs.Calls.{Asked, Become, Changed, Given, ReadsAs}
use Rattle.run_stores.proofs.Calls.{asked_stands, become_at, changed_then, given_at}
use Rattle.plain_tables.specs.Tables.{Tables}
use Rattle.histories.specs.History.{History, Command, with_step}
use Rattle.histories.specs.Legal.{IsInForm, IsLegal, expected_answer}
use Rattle.histories.specs.Representation.{TablesRepresent}
use Rattle.histories.specs.declared.answers.Answer.TheVariants.{Done}
use Rattle.histories.specs.declared.limits.Limits.{Limits}
use Rattle.histories.specs.Answered.{Follows, RepresentsHistory, WasExpected}
use Rattle.histories.proofs.ExpectedLeft.{steps_by, was_done, follows}

-- what the questions told of the tables is P, and then Done is expected
module _ (limits : Limits) (command : Command) (form : IsInForm command) (P : Tables → Type 0) (change : Tables → Tables) (is_expected : (h : History) (t : Tables) → TablesRepresent h t → P t → expected_answer limits h command ≡ Some Done)
    (agrees : (h : History) (t : Tables) → TablesRepresent h t → IsLegal limits h command Done → TablesRepresent (with_step h command Done) (change t)) {S : Type 0} (g : Ghosts S) (old mid new : S)
    (asked : Asked g true old mid) (told : (t : Tables) → ReadsAs g t old → P t) where
  pub steps_after_it : (answered done : Bool) → Changed g (Given P) (Become change) answered done mid new → Changed g TablesRepresent (Follows limits command) answered done old new
  steps_after_it answered done h = steps_by g limits command answered done old new (Given P) (Become change)
      (λ n s. (
        s.t,
        given_at g P s.t old (told s.t (g.said s.t old s.represents)) s.represents,
        follows limits n command form (change s.t) (is_expected n s.t s.agrees (told s.t (g.said s.t old s.represents))) (agrees n s.t s.agrees),
      ))
      (changed_then g (Given P) (Become change) answered done old mid new asked h)

  pub done_after : (h : History) → RepresentsHistory g h old → (answered : Bool) → Changed g (Given P) (Become change) answered true mid new → WasExpected g limits h command Done new
  done_after h s answered made =
      let mid_stands = asked_stands g s.t old mid asked s.represents in
      let held = told s.t (g.said s.t old s.represents) in
      was_done limits h command form (change s.t) (is_expected h s.t s.agrees held) (agrees h s.t s.agrees) g new
      (become_at g change s.t new (made.done refl s.t (given_at g P s.t mid held mid_stands)))
