use Rattle.std.proofs.Common.{◌≡◌, ℕ, List, Result, ◌∙◌}
use Rattle.http_exchange.specs.Failings.{IsMet}
use Rattle.http_exchange.specs.Requests.{request_by, request_of}
use Rattle.http_exchange.specs.declared.failings.Failing.{Failing}
use Rattle.http_exchange.specs.declared.checks.Request.{Request}
use Rattle.http_exchange.proofs.checks.read_request.Goals as goal

same : (limit : ℕ) (method method' target target' : List ℕ) (fields fields' : List (List ℕ × List ℕ)) (result : Result Request Failing)
    → method ≡ method' → target ≡ target' → fields ≡ fields' → IsMet (request_by limit method target fields) result → IsMet (request_by limit method' target' fields') result
same limit method method' target target' fields fields' result a b e is = rw (← a, ← b, ← e) is

pub returns : goal.returns
unfolding request_of
returns c = λ head at.
    same c.args.limit _ _ _ _ _ _ c.request_by.result (c.of-method.ensures ∙ at.at.method) (c.in-Ok.ensures.cases.0 ∙ c.of.ensures ∙ at.at.path) at.at.fields c.request_by.ensures
