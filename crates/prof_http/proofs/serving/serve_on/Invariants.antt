use Rattle.std.proofs.Common.{◌≡◌}
use Rattle.run_stores.specs.Calls.{IsFaithful}
use Rattle.prof_http.specs.Served.{HasServed}
use Rattle.prof_http.proofs.serving.serve_on.Given as goal

-- the clients so far were served
abbrev pub invariant-clients : goal.invariant-clients
invariant-clients g l =
    (l.warehouse.limits ≡ l.fn.warehouse.limits)
    × (IsFaithful g.S.StoreState l.warehouse.store → HasServed g.S.StoreState l.fn.warehouse.limits l._client l.fn.warehouse.store l.warehouse.store)
