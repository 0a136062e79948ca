use Rattle.std.proofs.Common.{◌≡◌, ◌<◌, ◌≤◌, get_or, length, map, take, List, sym, ap, ap₂, subst, ◌∙◌, arith}
use Rattle.std.proofs.lemmas.List.{take_all, take_more}
use Rattle.std.proofs.lemmas.List.Sums.{sum_by-drop_more}
use Rattle.report_texts.specs.Calls.{CallsOfFunction, calls_of_row, with_calls}
use Rattle.report_texts.specs.Pairs.{firsts_of, pairs_by, seconds_of}
use Rattle.store_calls.specs.KeptCalls.{calls_named, other_named, spot_asked}
use Rattle.store_calls.specs.declared.kept_rows.KeptCall.{KeptCall}
use Rattle.store_calls.proofs.KeptLemmas.{call_added, firsts_more, no_call, one_more, seconds_more, sums_at}
use Rattle.store_calls.proofs.named_calls.sums_named.Goals as goal

pub loop-call-preserved : goal.loop-call-preserved
loop-call-preserved g c =
    let k = c.loop-call.call-index in
    let items = c.args.calls.now.rows.items in
    let side = c.args.calls.now.side in
    let f = spot_asked c.args.asked in
    let same : c.deref-call-items.result.now ≡ items = c.deref-call-items.ensures.value in
    let low : k < length items = subst (λ (xs : List KeptCall). k < length xs) same c.loop-call-test.true in
    let call : KeptCall = get_or items k no_call in
    let before = c.loop-call.sums in
    let row = calls_of_row c.in_ok-row.row in
    let ok : c.add.new.self ≡ with_calls before row = c.in_ok-add.ensures.ok in
    let costs : c.in_ok-row.row.costs ≡ call.sum.first = c.in_ok-row.ensures.sum.0 ∙ ap (λ (xs : List KeptCall). (get_or xs k no_call).sum.first) same in
    let counts : c.in_ok-row.row.count ≡ call.sum.second = c.in_ok-row.ensures.sum.1 ∙ ap (λ (xs : List KeptCall). (get_or xs k no_call).sum.second) same in
    let first_is = ap (λ (s : CallsOfFunction). firsts_of s.sums) ok in
    let second_is = ap (λ (s : CallsOfFunction). seconds_of s.sums) ok in
    record {
      sums = λ all are.
          ok
          ∙ ap₂ with_calls (c.loop-call.invariant.sums all are) (c.in_ok-row.ensures.calls all are ∙ ap (λ (xs : List KeptCall). calls_named all side f (get_or xs k no_call)) same)
          ∙ call_added all f side call (pairs_by (map (other_named all) (take k items)))
          ∙ ap (sums_at all f side) (sym (one_more all f (take k items) call) ∙ ap (λ calls. pairs_by (map (other_named all) calls)) (sym (take_more items k no_call low)));
      first = omega (arith, first_is, firsts_more before row, costs, sum_by-drop_more (λ (c : KeptCall). c.sum.first) items k no_call low, c.loop-call.invariant.first);
      second = omega (arith, second_is, seconds_more before row, counts, sum_by-drop_more (λ (c : KeptCall). c.sum.second) items k no_call low, c.loop-call.invariant.second);
    }

pub returns : goal.returns
returns g c =
    let items = c.args.calls.now.rows.items in
    let high : length items ≤ c.loop-call.call-index = subst (λ (xs : List KeptCall). length xs ≤ c.loop-call.call-index) c.deref-call-items.ensures.value c.loop-call-test.false in
    λ all are.
    let so_far : List KeptCall → CallsOfFunction = λ calls. sums_at all (spot_asked c.args.asked) c.args.calls.now.side (pairs_by (map (other_named all) calls)) in
    let now : c.loop-call.sums ≡ so_far (take c.loop-call.call-index items) = c.loop-call.invariant.sums all are in
    now ∙ ap so_far (take_all c.loop-call.call-index items high)
