use Rattle.std.proofs.Common.{refl, subst, ◌∙◌}
use Rattle.prof_http.specs.Served.{WasExchangedWithAny}
use Rattle.prof_http.proofs.Served.{served_clean, served_none, served_on, served_one, with_any}
use Rattle.prof_http.proofs.serving.serve_on.Goals as goal

pub clients-init : goal.clients-init
clients-init g c = (refl, λ clean. served_none g.S.StoreState c.args.warehouse.now.limits 0 c.args.warehouse.now.store clean)

pub clients-preserved-in_default-client : goal.clients-preserved-in_default-client
clients-preserved-in_default-client g c =
    let i = c.clients.invariant in
    let limits = c.args.warehouse.now.limits in
    let old = c.args.warehouse.now.store in
    let new = c.clients.warehouse.store in (
      i.0,
      λ clean. served_on g.S.StoreState limits c.clients._client 1 old new new (i.1 clean) (served_none g.S.StoreState limits 1 new clean) clean,
    )

pub clients-preserved : goal.clients-preserved
clients-preserved g c =
    let i = c.clients.invariant in
    let limits = c.args.warehouse.now.limits in
    let old = c.args.warehouse.now.store in
    let mid = c.clients.warehouse.store in
    let new = c.answer-exchange.new.warehouse.store in
    let exchange = c.answer-exchange.result.0 in (
      c.answer-exchange.ensures.limits ∙ i.0,
      λ clean.
          let with = with_any g.S.StoreState c.clients.warehouse.limits _ _ _ exchange _ _ mid new c.answer-exchange.ensures.exchanged in
          let one = served_one g.S.StoreState limits exchange mid new (subst (λ x. WasExchangedWithAny g.S.StoreState x exchange mid new) i.0 with) clean in
          served_on g.S.StoreState limits c.clients._client 1 old mid new (i.1 (served_clean g.S.StoreState limits 1 mid new one clean)) one clean,
    )
