use Rattle.std.proofs.Common.{◌≡◌, ◌-◌, get_or, []}
use Rattle.http_exchange.specs.Texts.{parts_of}
use Rattle.http_exchange.proofs.texts.part.Given as goal

abbrev pub invariant-slashes : goal.invariant-slashes
invariant-slashes l = get_or (parts_of 47 l.path) l.number [] ≡ get_or (parts_of 47 l.rest) (l.number - l.step) []
