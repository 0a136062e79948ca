use Rattle.std.proofs.Common.{◌≡◌, map, take}
use Rattle.requests.specs.Plain.{plain_request}
use Rattle.requests.specs.declared.commands.Command.TheVariants as asks
use Rattle.command_line.proofs.plans.imports.Given as goal

abbrev pub invariant-loop-file : goal.invariant-loop-file
invariant-loop-file l = map plain_request l.commands ≡ map (λ file. asks.Import l.kind file.now file.now) (take l.file-index l.files)
