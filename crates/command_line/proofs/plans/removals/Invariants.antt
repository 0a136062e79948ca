use Rattle.std.proofs.Common.{◌≡◌, map, take}
use Rattle.requests.specs.Plain.{plain_request}
use Rattle.requests.specs.declared.commands.Command.TheVariants as asks
use Rattle.command_line.proofs.plans.removals.Given as goal

abbrev pub invariant-loop-number : goal.invariant-loop-number
invariant-loop-number l = map plain_request l.commands ≡ map asks.Remove (take l.number-index l.numbers)
