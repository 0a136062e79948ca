-- What a request asks for is the same, whatever its bytes come from.
use Rattle.std.proofs.Common.{◌≡◌, ℕ, List, refl}
use Rattle.std.specs.Borrow.{Bor}
use Rattle.byte_io.specs.Outcomes.{Outcome}
use Rattle.histories.specs.Requests.{command_read}
use Rattle.requests.specs.Plain.{plain_command, plain_request}
use Rattle.requests.specs.declared.commands.Command as requests
use Rattle.requests.specs.declared.commands.Command.TheVariants as asks

pub read_alike : (one : requests.Command (Bor (List ℕ)) (Bor (List ℕ))) (outcomes : List Outcome) → command_read (plain_command one) outcomes ≡ command_read (plain_request one) outcomes
read_alike (asks.Import kind label source) outcomes = refl
read_alike (asks.Remove n) outcomes = refl
read_alike (asks.MakeGroup name) outcomes = refl
read_alike (asks.DropGroup name) outcomes = refl
read_alike (asks.Join name n) outcomes = refl
read_alike (asks.Leave name n) outcomes = refl
read_alike (asks.SetBaseline name n) outcomes = refl
read_alike (asks.Ask query) outcomes = refl
read_alike (asks.Annotate selection event file source) outcomes = refl
