-- What is done to a group by its name.
use Rattle.std.specs.Prelude.{◌≡◌, Bool, true, false, List, ℕ, nat_le, length, Option, Some, None}
use Rattle.plain_tables.specs.Changes.{has_group, has_run, with_group, without_group, without_run, joined, without_member, with_baseline}
use Rattle.plain_tables.specs.Tables.{Tables}
use Rattle.histories.specs.History as history
use Rattle.histories.specs.History.{Command}
use Rattle.histories.specs.declared.answers.Answer.{Answer}
use Rattle.histories.specs.declared.answers.Answer.TheVariants as answers
use Rattle.histories.specs.declared.answers.Refusal.{Refusal}
use Rattle.histories.specs.declared.answers.Refusal.TheVariants.{BadName, Full, GroupTaken, NoSuchGroup}
use Rattle.histories.specs.declared.limits.Limits.{Limits}
use Rattle.histories.specs.Refusals.{missing_of}
use Rattle.store_commands.specs.declared.changes.GroupChange.{GroupChange}
use Rattle.store_commands.specs.declared.changes.GroupChange.TheVariants.{Make, Drop, Join, Leave, SetBaseline}

-- what it makes of the tables
abbrev pub changed : GroupChange → List ℕ → Tables → Tables
changed Make name t = with_group name t
changed Drop name t = without_group name t
changed (Join n) name t = joined name n t
changed (Leave n) name t = without_member name n t
changed (SetBaseline n) name t = with_baseline name n t

-- the command that asks for it
abbrev pub command_from_change : GroupChange → List ℕ → Command
command_from_change Make name = history.MakeGroup name
command_from_change Drop name = history.DropGroup name
command_from_change (Join n) name = history.Join name n
command_from_change (Leave n) name = history.Leave name n
command_from_change (SetBaseline n) name = history.SetBaseline name n

-- why a group is not made: its name is taken, or there are as many as there may be
abbrev pub unmade_for : Bool → Bool → Option Refusal
unmade_for true full = Some GroupTaken
unmade_for false true = Some Full
unmade_for false false = None

-- why it is refused, by what the tables hold
abbrev pub refusal_for : Limits → GroupChange → List ℕ → Tables → Option Refusal
refusal_for limits Make name t = unmade_for (has_group t name) (nat_le limits.groups (length t.groups))
refusal_for limits Drop name t = missing_of (has_group t name) true
refusal_for limits (Join n) name t = missing_of (has_group t name) (has_run t n)
refusal_for limits (Leave n) name t = missing_of (has_group t name) (has_run t n)
refusal_for limits (SetBaseline n) name t = missing_of (has_group t name) (has_run t n)

-- why it is refused under a name that no group can have
abbrev pub unnamed_for : GroupChange → Refusal
unnamed_for Make = BadName
unnamed_for Drop = NoSuchGroup
unnamed_for (Join n) = NoSuchGroup
unnamed_for (Leave n) = NoSuchGroup
unnamed_for (SetBaseline n) = NoSuchGroup

-- ---- over lines of tables, whatever they represent

-- a change is refused and they stay, or it is done and they become what it makes of them
module _ (Left : Tables → Type 0) where
  abbrev pub IsDoneIn : Option Refusal → (Tables → Tables) → Tables → Answer → Type 0
  IsDoneIn (Some refusal) change t answer = (answer ≡ answers.Refused refusal) × Left t
  IsDoneIn None change t answer = (answer ≡ answers.Done) × Left (change t)

-- a run is removed
abbrev pub RemovesIn : ℕ → (Tables → Type 0) → Tables → Answer → Type 0
RemovesIn n Left t answer = IsDoneIn Left (missing_of true (has_run t n)) (without_run n) t answer

-- a group is changed under a name that a group can have
abbrev pub GroupsIn : Limits → GroupChange → List ℕ → (Tables → Type 0) → Tables → Answer → Type 0
GroupsIn limits change name Left t answer = IsDoneIn Left (refusal_for limits change name t) (changed change name) t answer
