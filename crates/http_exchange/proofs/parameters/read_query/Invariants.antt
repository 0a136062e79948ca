use Rattle.std.proofs.Common.{◌≡◌, ℕ, ◌+◌, length, Option, Some, None}
use Rattle.std.specs.Borrow.{Bor}
use Rattle.std.specs.Prelude.{List}
use Rattle.http_exchange.specs.Texts.{shown, parts_after}
use Rattle.http_exchange.specs.Parameters.{with_parts, given_by}
use Rattle.http_exchange.proofs.parameters.read_query.Given as goal

abbrev pub invariant-parts : goal.invariant-parts
invariant-parts l = given_by l.names (shown l.query) ≡ with_parts l.names (parts_after 38 (shown l.rest)) (Some l.given)

abbrev pub left : Option (Bor (List ℕ)) → ℕ
left None = 0
left (Some text) = 1 + length text.now

abbrev pub decreases-parts : goal.decreases-parts
decreases-parts l = left l.rest
