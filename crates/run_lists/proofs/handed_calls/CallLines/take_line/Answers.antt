use Rattle.std.proofs.Common.{◌≤◌, ◌++◌, ◌∷◌, [], length, Result, Ok, Err, OnOk, Some, sym, subst, ◌∙◌}
use Rattle.prof_store.specs.Lines.{call_row}
use Rattle.run_lists.specs.HeldCalls.{HasTakenCalls}
use Rattle.run_lists.proofs.CallRows.{part_taken, row_begun}
use Rattle.run_lists.proofs.handed_calls.CallLines.take_line.Goals as goal

both_then : {T E : Type 0} (r : Result T E) (P Q R : Type 0) → OnOk r P → OnOk r Q → (P → Q → R) → OnOk r R
both_then (Ok x) P Q R p q f = f p q
both_then (Err e) P Q R p q f = p

pub returns : goal.returns
returns g c =
    let calls = c.args.self.now in
    let line = c.args.line in
    let first = c.in-Some.first in
    let step = g.T.CallSink.step in
    let came = g.T.CallSink.meaning calls.sink in
    let more = c.add_part.new.costs in
    let same = c.is_part_of.ensures c.if-is_part_of.true in
    both_then c.add_part.result _ _ _ c.add_part.ensures.lines c.add_part.ensures.within (λ grown within events start lines was.
    let before = subst (λ f. HasTakenCalls events step start came f calls.costs lines) c.in-Some.is was.taken in
    let taken = part_taken events step start came first line calls.costs more lines before same (grown (call_row first)) (subst (λ n. length more ≤ n) was.events_same within) in
    record {
      events_same = was.events_same;
      taken = subst (λ f. HasTakenCalls events step start came f more (lines ++ call_row line ∷ [])) (sym c.in-Some.is) taken;
    })

pub returns-2 : goal.returns-2
returns-2 g c events start lines was =
    let calls = c.args.self.now in
    let new = c.hand_on.new.self in
    let line = c.args.line in
    let step = g.T.CallSink.step in
    let h = c.in_ok-hand_on.ensures in
    let came = g.T.CallSink.meaning new.sink in
    let before = subst (λ n. HasTakenCalls n step start (g.T.CallSink.meaning calls.sink) calls.first calls.costs lines) (sym was.events_same) was.taken in
    let handed = subst (λ f. HasTakenCalls calls.events step start came f new.costs lines) h.none (h.taken start lines before) in
    let begun = row_begun calls.events step start came line new.costs lines handed c.in_ok-check_first.ensures.first in
    record {
      events_same = h.same ∙ was.events_same;
      taken = subst (λ n. HasTakenCalls n step start came (Some line) new.costs (lines ++ call_row line ∷ [])) was.events_same begun;
    }
