use Rattle.std.proofs.Common.{List, ℕ, [], None, refl, sym, subst}
use Rattle.run_lists.specs.HeldCalls.{HasTakenCalls}
use Rattle.run_lists.proofs.CallRows.{no_line}
use Rattle.run_lists.proofs.handed_calls.CallLines.new.Goals as goal

pub returns : goal.returns
returns g c =
    let events = c.args.events in
    let step = g.T.CallSink.step in
    let start = g.T.CallSink.meaning c.args.sink in
    record { events_same = refl; taken = subst (λ (k : List ℕ). HasTakenCalls events step start start None k []) (sym c.new.ensures) (no_line events step start) }
