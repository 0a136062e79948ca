-- A history: commands and what they were answered, and what is held after it.
use Rattle.std.specs.Prelude.{ℕ, suc, Bool, true, false, not, ◌&&◌, ◌||◌, ◌==◌, bytes_eq, if◌then◌else◌, List, [], ◌∷◌, ◌++◌, map, filter, length, Option, Some, None}
use Rattle.std.specs.List.{list_any}
use Rattle.histories.specs.Formats.{Format}
use Rattle.byte_io.specs.Outcomes.{Outcome, bytes_of}
use Rattle.histories.specs.declared.answers.Answer.{Answer}
use Rattle.histories.specs.declared.answers.Answer.TheVariants.{Run, Done}
use Rattle.requests.specs.Plain.{Query, Selection}

-- a command; an import, and the annotation of a source by an event and the name of a file, with what the reads of the source came to
pub data Command : Type 0 where
  Import : Format → List ℕ → List Outcome → Command
  Remove : ℕ → Command
  MakeGroup : List ℕ → Command
  DropGroup : List ℕ → Command
  Join : List ℕ → ℕ → Command
  Leave : List ℕ → ℕ → Command
  SetBaseline : List ℕ → ℕ → Command
  Ask : Query → Command
  Annotate : Selection → List ℕ → List ℕ → List Outcome → Command

-- a command and its answer
pub record Step : Type 0 where
  pub command : Command
  pub answer : Answer

-- the oldest first
abbrev pub History : Type 0
History = List Step

-- a history with a step more
abbrev pub with_step : History → Command → Answer → History
with_step h command answer = h ++ record { command = command; answer = answer } ∷ []

-- ---- the files that are held

pub record File : Type 0 where
  pub number : ℕ
  pub format : Format
  pub label : List ℕ
  pub bytes : List ℕ

-- a file is held from an import that is answered with its number on
abbrev pub taken_by : Command → Answer → Option File
taken_by (Import format label outcomes) (Run n) = Some (record { number = n; format = format; label = label; bytes = bytes_of outcomes })
taken_by command answer = None

abbrev pub removes : ℕ → Command → Answer → Bool
removes n (Remove m) Done = m == n
removes n command answer = false

abbrev pub is_removed : ℕ → History → Bool
is_removed n later = list_any (λ (step : Step). removes n step.command step.answer) later

abbrev pub unless_removed : Option File → History → List File
unless_removed None later = []
unless_removed (Some f) later = if is_removed f.number later then [] else f ∷ []

-- those that were taken and not removed later, the oldest first
abbrev pub held : History → List File
held [] = []
held (step ∷ later) = unless_removed (taken_by step.command step.answer) later ++ held later

-- ---- numbers

abbrev pub is_run : Answer → Bool
is_run (Run n) = true
is_run answer = false

-- the number of the next run: one above how many there were
abbrev pub next : History → ℕ
next h = suc (length (filter (λ (step : Step). is_run step.answer) h))

-- ---- groups

abbrev pub made_by : Command → Answer → Option (List ℕ)
made_by (MakeGroup name) Done = Some name
made_by command answer = None

abbrev pub drops : List ℕ → Command → Answer → Bool
drops name (DropGroup other) Done = bytes_eq other name
drops name command answer = false

abbrev pub is_dropped : List ℕ → History → Bool
is_dropped name later = list_any (λ (step : Step). drops name step.command step.answer) later

abbrev pub unless_dropped : Option (List ℕ) → History → List (List ℕ)
unless_dropped None later = []
unless_dropped (Some name) later = if is_dropped name later then [] else name ∷ []

-- the names of those that were made and not dropped later, the oldest first
abbrev pub groups : History → List (List ℕ)
groups [] = []
groups (step ∷ later) = unless_dropped (made_by step.command step.answer) later ++ groups later

-- ---- members

abbrev pub joins : List ℕ → ℕ → Command → Answer → Bool
joins name n (Join other m) Done = bytes_eq other name && (m == n)
joins name n command answer = false

-- it leaves, or is removed, or the group is dropped
abbrev pub parts : List ℕ → ℕ → Command → Answer → Bool
parts name n (Leave other m) Done = bytes_eq other name && (m == n)
parts name n (Remove m) Done = m == n
parts name n (DropGroup other) Done = bytes_eq other name
parts name n command answer = false

abbrev pub is_parted : List ℕ → ℕ → History → Bool
is_parted name n later = list_any (λ (step : Step). parts name n step.command step.answer) later

-- whether a run joined a group and did not part from it later
abbrev pub is_member : History → List ℕ → ℕ → Bool
is_member [] name n = false
is_member (step ∷ later) name n = (joins name n step.command step.answer && not (is_parted name n later)) || is_member later name n

-- the members of a group, their numbers rising as those of the files
abbrev pub members : History → List ℕ → List ℕ
members h name = filter (is_member h name) (map (λ (f : File). f.number) (held h))

-- ---- baselines

abbrev pub based_by : List ℕ → Command → Answer → Option ℕ
based_by name (SetBaseline other n) Done = if bytes_eq other name then Some n else None
based_by name command answer = None

-- another baseline is set, or the run is removed, or the group is dropped
abbrev pub unbases : List ℕ → ℕ → Command → Answer → Bool
unbases name n (SetBaseline other m) Done = bytes_eq other name
unbases name n (Remove m) Done = m == n
unbases name n (DropGroup other) Done = bytes_eq other name
unbases name n command answer = false

abbrev pub is_unbased : List ℕ → ℕ → History → Bool
is_unbased name n later = list_any (λ (step : Step). unbases name n step.command step.answer) later

abbrev pub unless_unbased : List ℕ → Option ℕ → History → Option ℕ → Option ℕ
unless_unbased name None later other = other
unless_unbased name (Some n) later other = if is_unbased name n later then other else Some n

-- the run that was set last, unless it was removed or the group dropped since
abbrev pub baseline : History → List ℕ → Option ℕ
baseline [] name = None
baseline (step ∷ later) name = unless_unbased name (based_by name step.command step.answer) later (baseline later name)
