-- What is asked of a warehouse, as a command of a history.
use Rattle.std.specs.Prelude.{ℕ, List}
use Rattle.byte_io.specs.Outcomes.{Outcome}
use Rattle.requests.specs.declared.commands.Command as requests
use Rattle.requests.specs.declared.commands.Command.TheVariants as asks
use Rattle.histories.specs.Formats.{today}
use Rattle.histories.specs.History.{Command, Import, Remove, MakeGroup, DropGroup, Join, Leave, SetBaseline, Ask, Annotate}

-- where the reads of its source came to these
abbrev pub command_read : {R : Type 0} → requests.Command R (List ℕ) → List Outcome → Command
command_read (asks.Import kind label source) outcomes = Import (today kind) label outcomes
command_read (asks.Remove n) outcomes = Remove n
command_read (asks.MakeGroup name) outcomes = MakeGroup name
command_read (asks.DropGroup name) outcomes = DropGroup name
command_read (asks.Join name n) outcomes = Join name n
command_read (asks.Leave name n) outcomes = Leave name n
command_read (asks.SetBaseline name n) outcomes = SetBaseline name n
command_read (asks.Ask query) outcomes = Ask query
command_read (asks.Annotate selection event file source) outcomes = Annotate selection event file outcomes
