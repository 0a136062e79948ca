-- What is done over an opened store, in the words of a history.
use Rattle.std.specs.Prelude.{◌≡◌, ◌⊎◌, ℕ, IsTrue, if◌then◌else◌, List, [], ◌∷◌, ◌++◌, map, Option, take, Result, MatchResult}
use Rattle.std.specs.Io.KnownBytes.{Appends}
use Rattle.std.specs.Borrow.{Bor}
use Rattle.std.specs.List.{list_any}
use Rattle.run_stores.specs.declared.states.StoreState.{Ghosts}
use Rattle.byte_io.specs.Outcomes.{Outcome}
use Rattle.histories.specs.History.{History, Command, Step}
use Rattle.histories.specs.Requests.{command_read}
use Rattle.histories.specs.declared.answers.Answer.{Answer}
use Rattle.histories.specs.declared.answers.Answer.TheVariants.{Refused}
use Rattle.histories.specs.declared.answers.Refusal.TheVariants.{Memory}
use Rattle.byte_io.specs.Imported.{WereRead}
use Rattle.requests.specs.Plain.{plain_request}
use Rattle.requests.specs.declared.commands.Command as requests
use Rattle.requests.specs.declared.commands.Command.TheVariants as asks
use Rattle.warehouse.specs.Answers.{is_refused, line_text, takes_memory}
use Rattle.warehouse.specs.Taken.{WereTaken}
use Rattle.program_stores.specs.declared.session.Session.{Session}

-- ---- the commands that are asked for

-- the path of the file that a command reads
abbrev pub path_in : requests.Command (List ℕ) (List ℕ) → List ℕ
path_in (asks.Import kind label path) = path
path_in (asks.Annotate selection event file path) = path
path_in command = []

-- a command of a history is the one that is asked for, with reads of the file that it names
abbrev pub IsReadAs : (List Outcome → Type 0) → requests.Command (List ℕ) (List ℕ) → Command → Type 0
IsReadAs reads one command = (outcomes : List Outcome) × reads outcomes × (command ≡ command_read one outcomes)

abbrev pub AreReadAs : (List Outcome → Type 0) → List (requests.Command (List ℕ) (List ℕ)) → List Command → Type 0
AreReadAs reads [] [] = Unit {0}
AreReadAs reads (one ∷ more) (command ∷ later) = IsReadAs reads one command × AreReadAs reads more later
AreReadAs reads more later = ⊥

-- the same of commands that the code lends, where the reads are those of files
abbrev pub Wants : {F : Type 0} → (F → Option (List ℕ)) → List (requests.Command (Bor (List ℕ)) (Bor (List ℕ))) → List Command → Type 0
Wants remaining commands list = AreReadAs (WereRead remaining) (map plain_request commands) list

-- ---- steps

abbrev pub commands_of : History → List Command
commands_of steps = map (λ (step : Step). step.command) steps

abbrev pub answers_of : History → List Answer
answers_of steps = map (λ (step : Step). step.answer) steps

-- 1 where one of the answers is a refusal, else what the status was
abbrev pub status_after : ℕ → List Answer → ℕ
status_after status answers = if list_any is_refused answers then 1 else status

-- the line of an answer, or that of out of memory, where there was none for its line; a text takes none
abbrev pub IsLineOf : Answer → List ℕ → Type 0
IsLineOf answer line = (line ≡ line_text answer) ⊎ (IsTrue (takes_memory answer) × (line ≡ line_text (Refused Memory)))

-- the lines of answers, one after another
abbrev pub AreLinesOf : List Answer → List ℕ → Type 0
AreLinesOf [] text = text ≡ []
AreLinesOf (answer ∷ answers) text = (line later : List ℕ) × IsLineOf answer line × AreLinesOf answers later × (text ≡ line ++ later)

-- the known bytes of what is printed to grow by the lines of these answers
abbrev pub ArePrinted : List Answer → Option (List ℕ) → Option (List ℕ) → Type 0
ArePrinted answers old new = (text : List ℕ) × AreLinesOf answers text × Appends old new text

-- they grow by the first bytes of those lines
abbrev pub ArePrintedInPart : List Answer → Option (List ℕ) → Option (List ℕ) → Type 0
ArePrintedInPart answers old new = (text : List ℕ) × (n : ℕ) × AreLinesOf answers text × Appends old new (take n text)

-- printed whole, or in part where that failed
abbrev pub Prints : {E : Type 0} → Result Unit E → List Answer → Option (List ℕ) → Option (List ℕ) → Type 0
Prints result answers old new = MatchResult result (λ done. ArePrinted answers old new) (λ e. ArePrintedInPart answers old new)

-- ---- what is done

module _ {R W S N : Type 0} (g : Ghosts S) where
  -- these steps were taken; the status is 1 where one is answered with a refusal, else what it was
  pub record Took (steps : History) (old new : Session R W S N) : Type 0 where
    pub taken : WereTaken g old.warehouse.limits steps old.warehouse.store new.warehouse.store
    pub status : new.status ≡ status_after old.status (answers_of steps)

  -- a command was answered, and the answer printed, whole or in part
  pub record WasTold (contents : W → Option (List ℕ)) (command : Command) {E : Type 0} (result : Result Unit E) (old new : Session R W S N) : Type 0 where
    pub answer : Answer
    pub took : Took (record { command = command; answer = answer } ∷ []) old new
    pub printed : Prints result (answer ∷ []) (contents old.out) (contents new.out)

  -- a command that is asked for was answered, with reads of the file that it names
  abbrev pub WasPerformed : (W → Option (List ℕ)) → (List Outcome → Type 0) → requests.Command (List ℕ) (List ℕ) → {E : Type 0} → Result Unit E → Session R W S N → Session R W S N → Type 0
  WasPerformed contents reads one result old new = (outcomes : List Outcome) × reads outcomes × WasTold contents (command_read one outcomes) result old new
