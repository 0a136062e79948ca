use Rattle.std.proofs.Common.{◌≡◌, drop}
use Rattle.http_exchange.specs.Places.{method_in}
use Rattle.http_exchange.proofs.places.method_in.Given as goal

abbrev pub invariant-loop-method : goal.invariant-loop-method
invariant-loop-method l = method_in l.methods l.text ≡ method_in (drop l.method-index l.methods) l.text
