use Rattle.std.proofs.Common.{sym, subst}
use Rattle.run_stores.specs.Walks.{CallsFoldTo}
use Rattle.run_lists.specs.HeldCalls.{HasTakenCalls}
use Rattle.run_lists.proofs.CallRows.{all_handed}
use Rattle.run_lists.proofs.handed_calls.CallLines.finish.Goals as goal

pub returns : goal.returns
returns g c events start lines was =
    let calls = c.args.self in
    let new = c.hand_on.new.self in
    let step = g.T.CallSink.step in
    let h = c.in_ok-hand_on.ensures in
    let came = g.T.CallSink.meaning new.sink in
    let before = subst (λ n. HasTakenCalls n step start (g.T.CallSink.meaning calls.sink) calls.first calls.costs lines) (sym was.events_same) was.taken in
    let handed = subst (λ f. HasTakenCalls calls.events step start came f new.costs lines) h.none (h.taken start lines before) in
    subst (λ n. CallsFoldTo n step start came lines) was.events_same (all_handed calls.events step start came new.costs lines handed)
