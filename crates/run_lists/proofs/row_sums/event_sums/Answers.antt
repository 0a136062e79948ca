use Rattle.std.proofs.Common.{◌+◌, ◌==◌, if◌then◌else◌, length, slice_index, sym, ap, ◌∙◌}
use Rattle.std.proofs.lemmas.List.{with_items_is}
use Rattle.run_lists.specs.declared.listed.ListedEvent.{ListedEvent}
use Rattle.run_lists.proofs.PartSums.{event_counted, event_passed_over}
use Rattle.run_lists.proofs.row_sums.event_sums.Goals as goal
use Rattle.run_lists.proofs.row_sums.event_sums.Goals.{then-event-run+in_ok-add_at+in_ok-add_at-2, else-event-run}

-- src/row_sums.rt:46:5
pub loop-event-preserved : goal.loop-event-preserved
loop-event-preserved c =
    let run = c.args.run in
    let events = c.args.events.now in
    let at = c.loop-event.event-index in
    let event = c.event-item.result in
    let self_cost = λ (e : ListedEvent). e.self_cost in
    let call_cost = λ (e : ListedEvent). e.call_cost in
    elim c.if-event-run.branch [
      | then-event-run+in_ok-add_at+in_ok-add_at-2 w ↦ record {
        cells = λ k.
            let more = if event.place == k then event.self_cost else 0 in
            let kept = with_items_is c.loop-event.self_costs w.add_at.new.sums (w.add_at.ensures.len ∙ ap length w.deref_mut.ensures.value ∙ sym c.loop-event.self_costs.ok.0) in
            ap (λ s. slice_index s.items k) w.self_costs-is ∙ ap (λ l. slice_index l k) kept ∙ w.in_ok-add_at.ensures.added k ∙ ap (λ l. slice_index l k + more) w.deref_mut.ensures.value
            ∙ ap (λ n. n + more) (c.loop-event.invariant.cells k) ∙ sym (event_counted self_cost run events at event c.loop-event-test.true c.event-item.is w.if-event-run.true k);
        calls = λ k.
            let more = if event.place == k then event.call_cost else 0 in
            let kept = with_items_is c.loop-event.call_costs w.add_at-then-event-run.new.sums (w.add_at-then-event-run.ensures.len ∙ ap length w.deref_mut-then-event-run.ensures.value ∙ sym c.loop-event.call_costs.ok.0) in
            ap (λ s. slice_index s.items k) w.call_costs-is ∙ ap (λ l. slice_index l k) kept ∙ w.in_ok-add_at-2.ensures.added k ∙ ap (λ l. slice_index l k + more) w.deref_mut-then-event-run.ensures.value
            ∙ ap (λ n. n + more) (c.loop-event.invariant.calls k) ∙ sym (event_counted call_cost run events at event c.loop-event-test.true c.event-item.is w.if-event-run.true k);
      }
      | else-event-run w ↦ record {
        cells = λ k. ap (λ s. slice_index s.items k) w.self_costs-is ∙ c.loop-event.invariant.cells k ∙ sym (event_passed_over self_cost run events at event c.loop-event-test.true c.event-item.is w.if-event-run.false k);
        calls = λ k. ap (λ s. slice_index s.items k) w.call_costs-is ∙ c.loop-event.invariant.calls k ∙ sym (event_passed_over call_cost run events at event c.loop-event-test.true c.event-item.is w.if-event-run.false k);
      }
    ]
