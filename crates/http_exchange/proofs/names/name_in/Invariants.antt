use Rattle.std.proofs.Common.{◌≡◌, drop}
use Rattle.http_exchange.specs.Parameters.{name_in}
use Rattle.http_exchange.proofs.names.name_in.Given as goal

abbrev pub invariant-loop-name : goal.invariant-loop-name
invariant-loop-name l = name_in l.names l.text ≡ name_in (drop l.name-index l.names) l.text
