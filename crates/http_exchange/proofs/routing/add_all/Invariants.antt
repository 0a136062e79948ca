use Rattle.std.proofs.Common.{◌≡◌, take, []}
use Rattle.http_exchange.specs.Places.{places}
use Rattle.http_exchange.specs.Routes.{with_places}
use Rattle.http_exchange.proofs.routing.add_all.Given as goal

abbrev pub invariant-loop-place : goal.invariant-loop-place
invariant-loop-place l = l.router ≡ with_places [] (take l.place-index places)
