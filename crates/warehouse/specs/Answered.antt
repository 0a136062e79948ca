-- What commands say, and what a list of them is answered and leaves.
use Rattle.std.specs.Prelude.{◌≡◌, ◌⊎◌, ℕ, ◌≤◌, map, List, [], ◌∷◌, length, Result, Ok, Err}
use Rattle.std.specs.Borrow.{Bor}
use Rattle.run_stores.specs.declared.states.StoreState.{Ghosts}
use Rattle.run_stores.specs.Calls.{IsFaithful}
use Rattle.byte_io.specs.Outcomes.{Outcome}
use Rattle.report_texts.specs.Csv.{EventSpot, csv_text}
use Rattle.histories.specs.History.{History, Command, Step}
use Rattle.histories.specs.declared.answers.Answer.{Answer}
use Rattle.histories.specs.declared.answers.Answer.TheVariants as answers
use Rattle.histories.specs.declared.answers.Refusal.TheVariants as reasons
use Rattle.histories.specs.declared.limits.Limits.{Limits}
use Rattle.byte_io.specs.Reads.{Reads}
use Rattle.byte_io.specs.declared.reading.Unread.{Unread}
use Rattle.byte_io.specs.declared.reading.Unread.TheVariants as unread
use Rattle.histories.specs.Answered.{Answers}
use Rattle.histories.specs.Requests.{command_read}
use Rattle.requests.specs.Plain.{plain_command}
use Rattle.requests.specs.declared.commands.Command as commands
use Rattle.requests.specs.declared.commands.Command.TheVariants as input
use Rattle.warehouse.specs.Taken.{WereTaken}

-- a command whose names are lent
abbrev pub Lent : Type 0 → Type 0
Lent R = commands.Command R (Bor (List ℕ))

-- a command that reads nothing
abbrev pub ReadsNone : {R : Type 0} → Lent R → Type 0
ReadsNone (input.Import kind label source) = ⊥
ReadsNone (input.Annotate selection event file source) = ⊥
ReadsNone command = Unit {0}

-- ---- what a command says

module _ {R : Type 0} (reads : R → Outcome → R → Type 0) where
  -- with what the reads of its source came to
  abbrev pub SaysRead : Lent R → R → Command → Type 0
  SaysRead one source command = (outcomes : List Outcome) × (to : R) × Reads reads source outcomes to × (command ≡ command_read (plain_command one) outcomes)

  abbrev pub Says : Lent R → Command → Type 0
  Says (input.Import kind label source) command = SaysRead (input.Import kind label source) source command
  Says (input.Annotate selection event file source) command = SaysRead (input.Annotate selection event file source) source command
  Says one command = command ≡ command_read (plain_command one) []

  abbrev pub AreCommandsOf : List (Lent R) → History → Type 0
  AreCommandsOf [] [] = Unit {0}
  AreCommandsOf (one ∷ more) (step ∷ later) = Says one step.command × AreCommandsOf more later
  AreCommandsOf more later = ⊥

module _ {S R : Type 0} (g : Ghosts S) (reads : R → Outcome → R → Type 0) where
  -- a command was answered, whatever its source came to; that holds over every disk, and where the disk returned what was written, the answer is one of the history
  pub record WasAnswered (limits : Limits) (one : Lent R) (answer : Answer) (old new : S) : Type 0 where
    pub command : Command
    pub says : Says reads one command
    pub answers : IsFaithful g new → Answers g limits command answer old new

  -- the same of a command that reads a source: the reads came to these outcomes, and left the source so
  pub record WasAnsweredOver (limits : Limits) (command : List Outcome → Command) (source to : R) (answer : Answer) (old new : S) : Type 0 where
    pub outcomes : List Outcome
    pub came : Reads reads source outcomes to
    pub answers : IsFaithful g new → Answers g limits (command outcomes) answer old new

  -- commands were run: each is a step that was taken, and is given its answer
  pub record WasRun (limits : Limits) (list : List (Lent R)) (given : List Answer) (old new : S) : Type 0 where
    pub steps : History
    pub command : AreCommandsOf reads list steps
    pub answered : map (λ (step : Step). step.answer) steps ≡ given
    pub taken : WereTaken g limits steps old new

-- a source that was not read to its end is refused as such
abbrev pub unread_for : Unread → Answer
unread_for unread.Memory = answers.Refused reasons.Memory
unread_for unread.Failed = answers.Refused reasons.ReadFault
unread_for unread.TooLong = answers.Refused reasons.TooLong

-- a text of at most so many bytes, or no text
abbrev pub IsShort : ℕ → Answer → Type 0
IsShort most (answers.Text text) = length text ≤ most
IsShort most (answers.Run n) = Unit {0}
IsShort most (answers.Held n) = Unit {0}
IsShort most answers.Done = Unit {0}
IsShort most (answers.Refused refusal) = Unit {0}

-- the same of what is asked; no other command is answered with a text
abbrev pub IsShortFor : {R : Type 0} → ℕ → Lent R → Answer → Type 0
IsShortFor most (input.Ask query) answer = IsShort most answer
IsShortFor most (input.Annotate selection event file source) answer = IsShort most answer
IsShortFor most command answer = Unit {0}

-- sums are given for their text, or where there is no memory for it for the refusal of that; else the answer is given
abbrev pub IsGivenFor : Answer → Result (List (EventSpot × ℕ)) Answer → Type 0
IsGivenFor answer (Ok sums) = (answer ≡ answers.Text (csv_text sums)) ⊎ (answer ≡ answers.Refused reasons.Memory)
IsGivenFor answer (Err given) = answer ≡ given
