use Rattle.std.proofs.Common.{◌≡◌, ◌≤◌, List, ℕ, [], Some, length, sym, ap, subst, subst₂, ◌∙◌}
use Rattle.prof_store.specs.Lines.{call_row}
use Rattle.run_lists.specs.HeldCalls.{HasTakenCalls, lines_from}
use Rattle.run_lists.proofs.CallRows.{row_handed}
use Rattle.run_lists.proofs.Steps.{on_ok_then}
use Rattle.run_lists.proofs.handed_calls.CallLines.hand_on.Goals as goal

pub returns-clause-taken : goal.returns-clause-taken
returns-clause-taken g c =
    let calls = c.args.self.now in
    let step = g.T.CallSink.step in
    let first = c.in-Some.first in
    let waits : calls.first ≡ Some first = sym c.take.ensures.value ∙ c.in-Some.is in
    let costs : c.replace-costs.result ≡ calls.costs = c.replace-costs.ensures.value in
    let none : c.replace-costs.new.dest ≡ [] = c.replace-costs.ensures.after ∙ c.new.ensures in
    let full = c.in_ok-costs.ensures in
    on_ok_then c.take-2.result _ _ c.take-2.ensures (λ steps start lines was.
    subst₂ (λ f (k : List ℕ). HasTakenCalls calls.events step start (g.T.CallSink.meaning c.take-2.new.self) f k lines) (sym c.take.ensures.after) (sym none)
    (row_handed calls.events step start _ _ first calls.costs c.in_ok-costs.costs c.call_edge.result lines
    (subst (λ f. HasTakenCalls calls.events step start (g.T.CallSink.meaning calls.sink) f calls.costs lines) waits was)
    (λ part. full.lines (call_row first) part ∙ ap (lines_from (call_row first) part) costs)
    (λ within. full.events (subst (λ (l : List ℕ). length l ≤ calls.events) (sym costs) within))
    c.call_edge.ensures steps))
