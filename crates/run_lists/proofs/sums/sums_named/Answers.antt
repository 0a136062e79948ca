use Rattle.std.proofs.Common.{◌≡◌, ◌+◌, true, bytes_eq, arith, rules}
use Rattle.run_lists.specs.declared.listed.ListedEvent.{ListedEvent}
use Rattle.run_lists.proofs.PlacedSums.{named_at_most, next_named}
use Rattle.run_lists.proofs.sums.sums_named.Goals.{then-own-ge-SUM_END-via-then-own-ge-SUM_END, then-own-ge-SUM_END-via-else-own-ge-SUM_END+then-calls-ge-SUM_END}
use Rattle.run_lists.proofs.sums.sums_named.Goals as goal

pub returns-then-own-ge-SUM_END-clause-refused : goal.returns-then-own-ge-SUM_END-clause-refused
returns-then-own-ge-SUM_END-clause-refused c = λ low.
    let events = c.args.events.now in
    let name = c.args.name.now in
    let at = c.loop-event.event-index in
    let event = c.event-item.result in
    let same : bytes_eq event.name.items name ≡ true = search rules in
    let own = next_named (λ (e : ListedEvent). e.self_cost) name events at event c.loop-event-test.true c.event-item.is same in
    let calls = next_named (λ (e : ListedEvent). e.call_cost) name events at event c.loop-event-test.true c.event-item.is same in
    elim c.then-own-ge-SUM_END.branch [
      | then-own-ge-SUM_END-via-then-own-ge-SUM_END w ↦ (let own_most = named_at_most (λ (e : ListedEvent). e.self_cost) name (at + 1) events in absurd (omega (arith, low, own, own_most, c.loop-event.invariant.own, c.from-own.ensures, w.if-own-ge-SUM_END.true)))
      | then-own-ge-SUM_END-via-else-own-ge-SUM_END+then-calls-ge-SUM_END w ↦
          (let most = named_at_most (λ (e : ListedEvent). e.call_cost) name (at + 1) events in omega (arith, calls, most, c.loop-event.invariant.calls, c.from-calls.ensures, w.if-calls-ge-SUM_END.true))
    ]
