-- What is given for an answer.
use Rattle.std.proofs.Common.{◌≡◌, ◌⊎◌, ℕ, List, Result, Ok, Err, IfOk, inl, inr, refl, sym, subst}
use Rattle.std.specs.Result.{is_ok}
use Rattle.run_stores.specs.declared.states.StoreState.{Ghosts}
use Rattle.run_stores.specs.Calls.{IsFaithful}
use Rattle.run_stores.proofs.Calls.{asked_refused}
use Rattle.plain_tables.specs.Tables.{Tables}
use Rattle.plain_tables.specs.declared.errors.StoreError.{StoreError}
use Rattle.plain_tables.specs.declared.errors.StoreError.TheVariants as ends
use Rattle.report_texts.specs.Csv.{EventSpot, csv_text}
use Rattle.histories.specs.History.{Ask}
use Rattle.histories.specs.declared.answers.Answer.{Answer}
use Rattle.histories.specs.declared.answers.Answer.TheVariants.{Text}
use Rattle.requests.specs.Plain.{Query}
use Rattle.histories.specs.declared.limits.Limits.{Limits}
use Rattle.histories.specs.Answered.{Answers, AnswersAsked, answer_for}
use Rattle.histories.proofs.Questions.{question_answered}
use Rattle.warehouse.specs.Answered.{IsGivenFor, IsShort}

module _ {S : Type 0} (g : Ghosts S) (Shows : Tables → Answer → Type 0) (query : Query) (old new : S) where
  -- the answer itself
  pub one_answered : (result : Result Answer StoreError) → AnswersAsked g Shows query result old new → (answer : Answer) → answer ≡ answer_for result → (limits : Limits) → IsFaithful g new → Answers g limits (Ask query) answer old new
  one_answered result asked answer is limits clean = subst (λ a. Answers g limits (Ask query) a old new) (sym is) (question_answered g limits Shows query old new result (asked clean))

  -- whatever was answered, there may be no memory for it
  refused_asked : (result : Result Answer StoreError) → AnswersAsked g Shows query result old new → AnswersAsked g Shows query (Err ends.Memory) old new
  refused_asked result asked clean = record { told = λ t read. tt; expected_answer = λ h represents. tt; still = refl; asks = asked_refused g (is_ok result) old new (asked clean).asks }

  pub kept_asked : (result kept : Result Answer StoreError) → (kept ≡ result) ⊎ (kept ≡ Err ends.Memory) → AnswersAsked g Shows query result old new → AnswersAsked g Shows query kept old new
  kept_asked result kept (inl same) asked = subst (λ (r : Result Answer StoreError). AnswersAsked g Shows query r old new) (sym same) asked
  kept_asked result kept (inr none) asked = subst (λ (r : Result Answer StoreError). AnswersAsked g Shows query r old new) (sym none) (refused_asked result asked)

  -- sums, for which there may be no memory
  pub sums_answered : (sums : List (EventSpot × ℕ)) → AnswersAsked g Shows query (Ok (Text (csv_text sums))) old new → (answer : Answer) → IsGivenFor answer (Ok sums) → (limits : Limits) → IsFaithful g new → Answers g limits (Ask query) answer old new
  sums_answered sums asked answer is = elim is [
    | inl text ↦ one_answered (Ok (Text (csv_text sums))) asked answer text
    | inr none ↦ one_answered (Err ends.Memory) (refused_asked (Ok (Text (csv_text sums))) asked) answer none
  ]

-- a refusal is no text
pub short_for : (most : ℕ) (result : Result Answer StoreError) → IfOk result (IsShort most) → IsShort most (answer_for result)
short_for most (Ok answer) short = short
short_for most (Err ends.Memory) short = tt
short_for most (Err ends.Store) short = tt
