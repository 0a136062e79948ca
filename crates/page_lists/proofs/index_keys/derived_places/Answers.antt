use Rattle.std.proofs.Common.{◌∷◌, [], ℕ, map, refl, ap, ◌∙◌}
use Rattle.std.proofs.lemmas.List.{take_all}
use Rattle.std.proofs.lemmas.Result.{IfOk-from_err}
use Rattle.prof_store.specs.Tables.{number}
use Rattle.page_lists.specs.Indexed.{derived_place_key}
use Rattle.page_lists.proofs.HeadLists.{next_made}
use Rattle.page_lists.proofs.index_keys.derived_places.Goals as goal

pub returns-in_err-keys : goal.returns-in_err-keys
returns-in_err-keys c = IfOk-from_err c.from_residual.result _ c.from_residual.ensures.0

pub returns-in_err-push : goal.returns-in_err-push
returns-in_err-push c = IfOk-from_err c.from_residual-in_err-push.result _ c.from_residual-in_err-push.ensures.0

pub loop-event-init : goal.loop-event-init
loop-event-init c = ap (map (λ (k : ℕ × ℕ). number k.0 ∷ number k.1 ∷ [])) c.in_ok-keys.ensures.items

pub loop-event-preserved : goal.loop-event-preserved
loop-event-preserved c =
    next_made derived_place_key (λ (k : ℕ × ℕ). number k.0 ∷ number k.1 ∷ []) c.args.derived.now c.loop-event.event-index c.event-item.result c.loop-event.keys.items c.push.new.self.items _
    c.loop-event-test.true c.event-item.is c.loop-event.invariant c.in_ok-push.ensures.items refl

pub returns : goal.returns
returns c = c.loop-event.invariant ∙ ap (map derived_place_key) (take_all c.loop-event.event-index c.args.derived.now c.loop-event-test.false)
