-- What is answered to a command, and what it leaves.
use Rattle.std.specs.Prelude.{◌≡◌, ◌⊎◌, Bool, true, false, IsTrue, Some, Result, Ok, Err, IfOk, [], ◌∷◌}
use Rattle.std.specs.Result.{is_ok}
use Rattle.run_stores.specs.declared.states.StoreState.{Ghosts}
use Rattle.run_stores.specs.Calls.{Asked, Changed, KeepsIfShut, Represents, ReadsAs, IsFaithful, IsUsable}
use Rattle.plain_tables.specs.Tables.{Tables}
use Rattle.plain_tables.specs.declared.errors.StoreError.{StoreError}
use Rattle.plain_tables.specs.declared.errors.StoreError.TheVariants as ends
use Rattle.histories.specs.History.{History, Command, with_step}
use Rattle.histories.specs.Legal.{IsFailure, IsLegal, IsHistory, expected_of_query, expected_answer}
use Rattle.histories.specs.Representation.{TablesRepresent}
use Rattle.histories.specs.declared.answers.Answer.{Answer}
use Rattle.histories.specs.declared.answers.Answer.TheVariants as answers
use Rattle.histories.specs.declared.answers.Refusal.TheVariants as reasons
use Rattle.histories.specs.declared.limits.Limits.{Limits}
use Rattle.requests.specs.Plain.{Query}

-- whether an answer says that the tables changed
abbrev pub is_accepted : Answer → Bool
is_accepted (answers.Run n) = true
is_accepted answers.Done = true
is_accepted answer = false

-- whether a call answered that the tables changed
abbrev pub has_changed : Result Answer StoreError → Bool
has_changed (Ok answer) = is_accepted answer
has_changed (Err end) = false

-- lines after the command, answered with a change that is legal
pub record Follows (limits : Limits) (command : Command) (h : History) (t : Tables) : Type 0 where
  pub answer : Answer
  pub accepted : IsTrue (is_accepted answer)
  pub legal : IsLegal limits h command answer
  pub agrees : TablesRepresent (with_step h command answer) t

module _ {S : Type 0} (g : Ghosts S) where
  -- between commands the lines that the store represents tell a history
  pub record RepresentsHistory (h : History) (store : S) : Type 0 where
    pub t : Tables
    pub represents : Represents g t store
    pub agrees : TablesRepresent h t

  -- a store with this history: as long as it can be used, it represents it
  pub record HasHistory (h : History) (store : S) : Type 0 where
    pub legal : IsHistory h
    pub represents : IsUsable g store → RepresentsHistory h store

  -- a command in form was answered what was expected, and its step is the history's last
  pub record WasExpected (limits : Limits) (h : History) (command : Command) (answer : Answer) (new : S) : Type 0 where
    pub is_expected : expected_answer limits h command ≡ Some answer
    pub after : RepresentsHistory (with_step h command answer) new

  -- what a call for a command leaves, whatever the history: where the command is not done, all is as before; a crash leaves what it could leave before, or lines with the command done
  abbrev pub StepsToIf : Limits → Command → Bool → Bool → S → S → Type 0
  StepsToIf limits command answered done old new = IsFaithful g new → Changed g TablesRepresent (Follows limits command) answered done old new

  -- a command was answered: the answer is legal, and the store has the history with it
  pub record IsAnswered (limits : Limits) (h : History) (command : Command) (answer : Answer) (new : S) : Type 0 where
    pub legal : IsLegal limits h command answer
    pub after : HasHistory (with_step h command answer) new

  -- a command was answered over a store: what it leaves, whatever the history; that the answer is legal after each history that the store has; that it makes the store unusable only where memory or the store failed; and that it makes nothing lasting where it was unusable
  pub record Answers (limits : Limits) (command : Command) (answer : Answer) (old new : S) : Type 0 where
    pub stepped : Changed g TablesRepresent (Follows limits command) (is_accepted answer) (is_accepted answer) old new
    pub answered : (h : History) → HasHistory h old → IsAnswered limits h command answer new
    pub closes : IsUsable g old → IsUsable g new ⊎ IsFailure answer
    pub shut : KeepsIfShut g old new

  -- a question was answered, with a text or a refusal, as the lines say as which the store was read, and what is expected after each history that it represents; the store was only asked
  pub record WasAsked (Shows : Tables → Answer → Type 0) (query : Query) (result : Result Answer StoreError) (old new : S) : Type 0 where
    pub told : (t : Tables) → ReadsAs g t old → IfOk result (Shows t)
    pub expected_answer : (h : History) → RepresentsHistory h old → IfOk result (λ answer. answer ≡ expected_of_query h query)
    pub still : has_changed result ≡ false
    pub asks : Asked g (is_ok result) old new

  abbrev pub AnswersAsked : (Tables → Answer → Type 0) → Query → Result Answer StoreError → S → S → Type 0
  AnswersAsked Shows query result old new = IsFaithful g new → WasAsked Shows query result old new

  -- steps one after another, each from the store that the one before left
  abbrev pub Links : Limits → History → S → S → Type 0
  Links limits [] old new = old ≡ new
  Links limits (step ∷ later) old new = (mid : S) × Answers limits step.command step.answer old mid × Links limits later mid new

-- out of memory, or a failure of the store, is refused as such
abbrev pub answer_for : Result Answer StoreError → Answer
answer_for (Ok answer) = answer
answer_for (Err ends.Memory) = answers.Refused reasons.Memory
answer_for (Err ends.Store) = answers.Refused reasons.Store
