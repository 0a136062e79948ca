use Rattle.std.proofs.lemmas.List.Sorted.{answers_always}
use Rattle.std.proofs.Common.{rules, ◌≡◌, ◌==◌, Vec, Global, map, ap, ◌∙◌, arith}
use Rattle.std.proofs.lemmas.Bool.{eq-eqb, ne_eqb}
use Rattle.std.proofs.lemmas.Result.{IfOk-from_err}
use Rattle.plain_tables.specs.Tables.{EventRow}
use Rattle.run_stores.specs.HeldHeads.{event_of_line}
use Rattle.run_lists.specs.HeadLines.{entry_of_event}
use Rattle.run_lists.specs.Listed.{event_row}
use Rattle.run_lists.specs.declared.head_lines.HeadEvent.{HeadEvent}
use Rattle.page_lists.proofs.HeadLists.{all_kept, next_kept, next_passed}
use Rattle.page_lists.proofs.heads.events_of.Goals.{then-event-run+in_ok-line+else-is_err, else-event-run}
use Rattle.page_lists.proofs.heads.events_of.Goals as goal

pub returns-clause-read : goal.returns-clause-read
returns-clause-read c = all_kept event_row (λ (e : EventRow). e.run == c.args.run) event_of_line entry_of_event c.args.events.now c.events.event-index c.events.lines.items _ (omega arith) c.events.invariant c.sort_unstable_by_key.ensures.permutation

pub events-init : goal.events-init
events-init c = ap (map entry_of_event) c.new-lines.ensures.items

pub returns-in_err-line-clause-read : goal.returns-in_err-line-clause-read
returns-in_err-line-clause-read c = IfOk-from_err c.from_residual.result _ c.from_residual.ensures.0

pub events-preserved : goal.events-preserved
events-preserved c =
    let events = c.args.events.now in
    let at = c.events.event-index in
    let event = c.event-item.result in
    elim c.if-event-run.branch [
      | then-event-run+in_ok-line+else-is_err w ↦
          ap (λ (lines : Vec HeadEvent Global). map entry_of_event lines.items) w.lines-is
          ∙ next_kept event_row (λ (e : EventRow). e.run == c.args.run) event_of_line entry_of_event events at event c.events.lines.items _ w.in_ok-line.line c.events-test.true c.event-item.is (eq-eqb _ _ w.if-event-run.true)
          c.events.invariant (rw w.if-is_err.ensures.negation at w.push.ensures.items) w.in_ok-line.ensures.read
      | else-event-run w ↦
          ap (λ (lines : Vec HeadEvent Global). map entry_of_event lines.items) w.lines-is
          ∙ next_passed event_row (λ (e : EventRow). e.run == c.args.run) event_of_line entry_of_event events at event c.events.lines.items c.events-test.true c.event-item.is (ne_eqb _ _ w.if-event-run.false) c.events.invariant
    ]

pub returns-clause-sorted : goal.returns-clause-sorted
returns-clause-sorted c = c.sort_unstable_by_key.ensures.sorted (λ (line : HeadEvent). line.place) (answers_always _ (λ a r. r ≡ a.0.now.place) _ (λ f a r g called. search rules))
