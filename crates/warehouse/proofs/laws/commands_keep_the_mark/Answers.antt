use Rattle.std.proofs.Common.{◌≡◌, ℕ, List, [], ◌∷◌, refl, sym, subst}
use Rattle.callgrind_reader.specs.Grammars.{Second}
use Rattle.profile_records.specs.declared.kinds.Kind.TheVariants as kinds
use Rattle.byte_io.specs.Outcomes.{Outcome}
use Rattle.histories.specs.History.{Command, History}
use Rattle.histories.specs.Marks.{AreBy, IsBy}
use Rattle.histories.specs.Requests.{command_read}
use Rattle.histories.proofs.Marks.{marked_on}
use Rattle.requests.specs.Plain.{plain_command}
use Rattle.requests.specs.declared.commands.Command as commands
use Rattle.requests.specs.declared.commands.Command.TheVariants as input
use Rattle.warehouse.specs.Answered.{AreCommandsOf, Lent, Says}
use Rattle.warehouse.proofs.laws.commands_keep_the_mark.Goals as goal

read_is : {R : Type 0} (one : commands.Command R (List ℕ)) (outcomes : List Outcome) → IsBy Second (command_read one outcomes)
read_is (input.Import kinds.Callgrind label source) outcomes = refl
read_is (input.Import kinds.Folded label source) outcomes = tt
read_is (input.Remove n) outcomes = tt
read_is (input.MakeGroup name) outcomes = tt
read_is (input.DropGroup name) outcomes = tt
read_is (input.Join name n) outcomes = tt
read_is (input.Leave name n) outcomes = tt
read_is (input.SetBaseline name n) outcomes = tt
read_is (input.Ask query) outcomes = tt
read_is (input.Annotate selection event file source) outcomes = tt

module _ {R : Type 0} (reads : R → Outcome → R → Type 0) where
  read_of : (one : Lent R) (outcomes : List Outcome) (command : Command) → command ≡ command_read (plain_command one) outcomes → IsBy Second command
  read_of one outcomes command is = subst (IsBy Second) (sym is) (read_is (plain_command one) outcomes)

  one_is : (one : Lent R) (command : Command) → Says reads one command → IsBy Second command
  one_is (input.Import kind label source) command is = read_of (input.Import kind label source) is.0 command is.3
  one_is (input.Annotate selection event file source) command is = read_of (input.Annotate selection event file source) is.0 command is.3
  one_is (input.Remove n) command is = read_of (input.Remove n) [] command is
  one_is (input.MakeGroup name) command is = read_of (input.MakeGroup name) [] command is
  one_is (input.DropGroup name) command is = read_of (input.DropGroup name) [] command is
  one_is (input.Join name n) command is = read_of (input.Join name n) [] command is
  one_is (input.Leave name n) command is = read_of (input.Leave name n) [] command is
  one_is (input.SetBaseline name n) command is = read_of (input.SetBaseline name n) [] command is
  one_is (input.Ask query) command is = read_of (input.Ask query) [] command is

  all_are : (list : List (Lent R)) (steps : History) → AreCommandsOf reads list steps → AreBy Second steps
  all_are [] [] command = tt
  all_are [] (step ∷ steps) command = absurd command
  all_are (one ∷ list) [] command = absurd command
  all_are (one ∷ list) (step ∷ steps) command = (one_is one step.command command.0, all_are list steps command.1)

pub returns-clause-second : goal.returns-clause-second
returns-clause-second g c list steps command = all_are g.R.Source.reads list steps command

pub returns-clause-marked : goal.returns-clause-marked
returns-clause-marked g c h list steps was command = marked_on h steps was (all_are g.R.Source.reads list steps command)
