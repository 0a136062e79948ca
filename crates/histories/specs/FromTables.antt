-- What is answered by what is found in tables, whatever they represent.
use Rattle.std.specs.Prelude.{◌≡◌, ◌⊎◌, ℕ, List, Option, Some, None, Result, Ok, Err}
use Rattle.std.specs.Bool.{⊤}
use Rattle.run_stores.specs.declared.states.StoreState.{Ghosts}
use Rattle.run_stores.specs.Calls.{MakesOf, Represents, Tells}
use Rattle.plain_tables.specs.Tables.{Tables}
use Rattle.histories.specs.declared.answers.Answer.{Answer}
use Rattle.histories.specs.declared.answers.Answer.TheVariants as answers
use Rattle.histories.specs.declared.answers.Refusal.{Refusal}
use Rattle.histories.specs.declared.answers.Refusal.TheVariants as reasons
use Rattle.histories.specs.Legal.{IsFailure}

-- what is found is shown, and what is not there is refused
abbrev pub AnswersFor : {T : Type 0} → (T → Answer → Type 0) → Result T Refusal → Answer → Type 0
AnswersFor Shows (Ok found) answer = Shows found answer
AnswersFor Shows (Err refusal) answer = answer ≡ answers.Refused refusal

pub record AnswersBy {T : Type 0} (Finds : Result T Refusal → Type 0) (Shows : T → Answer → Type 0) (answer : Answer) : Type 0 where
  pub found : Result T Refusal
  pub is_found : Finds found
  pub answer_is : AnswersFor Shows found answer

-- a text of this meaning
abbrev pub ShowsText : (List ℕ → Type 0) → Answer → Type 0
ShowsText IsText answer = (text : List ℕ) × IsText text × (answer ≡ answers.Text text)

-- a text, or that no such name is there
abbrev pub text_or_no_name : Option (List ℕ) → Answer
text_or_no_name (Some text) = answers.Text text
text_or_no_name None = answers.Refused reasons.NoSuchName

-- this is answered, or that memory or the store failed
abbrev pub OrFailed : (Answer → Type 0) → Answer → Type 0
OrFailed Shows answer = Shows answer ⊎ IsFailure answer

-- a command that changes the tables is answered by the lines as which their rows are read, and makes of the lines that they hold what it says
pub record WasChangedIn {S : Type 0} (g : Ghosts S) (Says : (Tables → Type 0) → Tables → Answer → Type 0) (answer : Answer) (old new : S) : Type 0 where
  pub told : Tells g old new (λ t. OrFailed (Says (λ _. ⊤) t) answer)
  pub made : MakesOf g old new (λ t. OrFailed (Says (λ left. Represents g left new) t) answer)
