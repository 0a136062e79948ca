-- A question that was answered, as a command.
use Rattle.std.specs.Result.{is_ok}
use Rattle.std.proofs.Common.{◌≡◌, ◌∙◌, Bool, false, Result, Ok, Err, IfOk, Some, inl, inr, ap, refl, sym, subst}
use Rattle.run_stores.specs.declared.states.StoreState.{Ghosts}
use Rattle.run_stores.specs.Calls.{Asked, Changed, ReadsAs}
use Rattle.run_stores.proofs.Calls.{asked_stands, changed_asked, shut_asked}
use Rattle.plain_tables.specs.Tables.{Tables}
use Rattle.plain_tables.specs.declared.errors.StoreError.{StoreError}
use Rattle.plain_tables.specs.declared.errors.StoreError.TheVariants as ends
use Rattle.histories.specs.History.{History, Command, Ask}
use Rattle.histories.specs.Legal.{IsInForm, expected_answer, expected_of_query}
use Rattle.histories.specs.Representation.{TablesRepresent}
use Rattle.histories.specs.declared.answers.Answer.{Answer}
use Rattle.histories.specs.declared.answers.Answer.TheVariants as answers
use Rattle.requests.specs.Plain.{Query}
use Rattle.histories.specs.declared.limits.Limits.{Limits}
use Rattle.histories.proofs.Held.{IsStill}
use Rattle.histories.specs.Answered.{Answers, Follows, RepresentsHistory, WasAsked, WasExpected, answer_for, has_changed, is_accepted}
use Rattle.histories.specs.FromTables.{OrFailed}
use Rattle.histories.proofs.ExpectedLeft.{was_still}
use Rattle.histories.proofs.Settled.{closes_for, settled, steps_answer}

pub stays_still : (answer : Answer) → is_accepted answer ≡ false → IsStill answer
stays_still (answers.Run n) is = absurd cc
stays_still (answers.Held n) is = tt
stays_still answers.Done is = absurd cc
stays_still (answers.Text text) is = tt
stays_still (answers.Refused refusal) is = tt

-- ---- a question over tables: where they represent a history, what they tell is what is expected after it

abbrev pub IsTold : (Tables → Answer → Type 0) → Query → Type 0
IsTold Shows query = (h : History) (t : Tables) (answer : Answer) → TablesRepresent h t → Shows t answer → answer ≡ expected_of_query h query

pub if_ok_so : {T E : Type 0} {P Q : T → Type 0} (r : Result T E) → ((x : T) → P x → Q x) → IfOk r P → IfOk r Q
if_ok_so (Ok x) so is = so x is
if_ok_so (Err e) so is = tt

pub asked_once : {S : Type 0} (g : Ghosts S) (Shows : Tables → Answer → Type 0) (query : Query) → IsTold Shows query → (result : Result Answer StoreError) (old new : S)
    → has_changed result ≡ false → Asked g (is_ok result) old new → ((t : Tables) → ReadsAs g t old → IfOk result (Shows t)) → WasAsked g Shows query result old new
asked_once g Shows query law result old new still asks told = record {
  told = told;
  expected_answer = λ h s. if_ok_so result (λ answer. law h s.t answer s.agrees) (told s.t (g.said s.t old s.represents));
  still = still;
  asks = asks;
}

pub or_failed : (Shows : Answer → Type 0) (result : Result Answer StoreError) → IfOk result Shows → OrFailed Shows (answer_for result)
or_failed Shows (Ok answer) is = inl is
or_failed Shows (Err ends.Memory) is = inr (inl refl)
or_failed Shows (Err ends.Store) is = inr (inr refl)

-- ---- a command whose expected answer is that of a question

module _ {S : Type 0} (g : Ghosts S) (limits : Limits) (Shows : Tables → Answer → Type 0) (query : Query) (command : Command) (form : IsInForm command) (expected : (h : History) → expected_answer limits h command ≡ Some (expected_of_query h query)) (old new : S) where
  was_expected : (result : Result Answer StoreError) → WasAsked g Shows query result old new → (h : History) → RepresentsHistory g h old → IfOk result (λ answer. WasExpected g limits h command answer new)
  was_expected (Err end) asked h s = tt
  was_expected (Ok answer) asked h s =
      was_still limits h command form g old new answer (stays_still answer asked.still) (expected h ∙ ap (λ a. Some a) (sym (asked.expected_answer h s))) s
      (asked_stands g s.t old new asked.asks s.represents)

  pub answered_as : (result : Result Answer StoreError) → WasAsked g Shows query result old new → Answers g limits command (answer_for result) old new
  answered_as result asked =
      let unchanged = changed_asked g TablesRepresent (Follows limits command) (is_ok result) old new asked.asks in
      let stepped = subst (λ (done : Bool). Changed g TablesRepresent (Follows limits command) (is_ok result) done old new) (sym asked.still) unchanged in
      record {
        stepped = steps_answer g limits command result old new stepped;
        answered = λ h has. settled g limits h command old new has result form (was_expected result asked h) stepped;
        closes = closes_for g result old new asked.asks.stays;
        shut = shut_asked g (is_ok result) old new asked.asks;
      }

pub question_answered : {S : Type 0} (g : Ghosts S) (limits : Limits) (Shows : Tables → Answer → Type 0) (query : Query) (old new : S) (result : Result Answer StoreError) → WasAsked g Shows query result old new → Answers g limits (Ask query) (answer_for result) old new
question_answered g limits Shows query old new result asked = answered_as g limits Shows query (Ask query) tt (λ h. refl) old new result asked
