use Rattle.std.proofs.Common.{◌∙◌, sym, subst}
use Rattle.run_stores.specs.Calls.{IsFaithful}
use Rattle.histories.specs.Standard.{IsStandard}
use Rattle.prof_http.specs.Served.{Serves}
use Rattle.prof_http.proofs.Served.{came_served, served_none}
use Rattle.prof_http.proofs.serving.serve_over.Goals.{in-Ok-Some, in-Ok-None, in-Err}
use Rattle.prof_http.proofs.serving.serve_over.Goals as goal

pub returns-in_default : goal.returns-in_default
returns-in_default g c clean =
    let warehouse = c.with_most-warehouse.result in
    let requests = c.args.service.requests in
    let standard : IsStandard c.standard.result = record { bytes = c.standard.ensures.bytes; runs = c.standard.ensures.runs; groups = c.standard.ensures.groups; numbers = c.standard.ensures.numbers } in
    came_served g.S.StoreState warehouse.limits requests c.args.store warehouse.store warehouse.store c.into_store.result
    (subst IsStandard (sym (c.with_most-warehouse.ensures.limits ∙ c.new.ensures.limits)) standard)
    (c.with_most-warehouse.ensures.store ∙ c.new.ensures.store)
    c.into_store.ensures
    (served_none g.S.StoreState warehouse.limits requests warehouse.store (subst (IsFaithful g.S.StoreState) c.into_store.ensures clean))

pub returns : goal.returns
returns g c clean =
    let warehouse = c.with_most-warehouse.result in
    let requests = c.args.service.requests in
    let served : Serves g.S.StoreState requests warehouse.limits warehouse.store c.match-listen.warehouse.store = elim c.match-listen.branch [
      | in-Ok-Some w ↦ subst (λ x. Serves g.S.StoreState requests warehouse.limits warehouse.store x.store) (sym w.warehouse-is) w.serve_on-is_done.ensures.served
      | in-Ok-None w ↦ subst (λ x. Serves g.S.StoreState requests warehouse.limits warehouse.store x.store) (sym w.warehouse-is) (served_none g.S.StoreState warehouse.limits requests warehouse.store)
      | in-Err w ↦ subst (λ x. Serves g.S.StoreState requests warehouse.limits warehouse.store x.store) (sym w.warehouse-is) (served_none g.S.StoreState warehouse.limits requests warehouse.store)
    ] in
    let standard : IsStandard c.standard.result = record { bytes = c.standard.ensures.bytes; runs = c.standard.ensures.runs; groups = c.standard.ensures.groups; numbers = c.standard.ensures.numbers } in
    came_served g.S.StoreState warehouse.limits requests c.args.store warehouse.store c.match-listen.warehouse.store c.into_store-2.result
    (subst IsStandard (sym (c.with_most-warehouse.ensures.limits ∙ c.new.ensures.limits)) standard)
    (c.with_most-warehouse.ensures.store ∙ c.new.ensures.store)
    c.into_store-2.ensures
    (served (subst (IsFaithful g.S.StoreState) c.into_store-2.ensures clean))
