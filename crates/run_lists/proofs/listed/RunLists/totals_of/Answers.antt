use Rattle.std.proofs.Common.{◌≤◌, ◌<◌, ◌∙◌, ℕ, List, get_or, map, sum_by, ap, subst₂, arith}
use Rattle.std.proofs.lemmas.List.Elements.{All-from_recursion}
use Rattle.cost_rows.specs.KeySums.{sum_end}
use Rattle.std.proofs.lemmas.List.{take_all}
use Rattle.run_stores.specs.Totals.{held_self, held_calls}
use Rattle.plain_tables.specs.Tables.{RunRow}
use Rattle.run_lists.specs.Listed.{run_row}
use Rattle.run_lists.specs.Sums.{calls_sum, self_sum}
use Rattle.run_lists.specs.declared.listed.ListedRun.{ListedRun}
use Rattle.run_lists.proofs.SumLists.{calls_told, map_same, self_told, sum_row}
use Rattle.run_lists.proofs.listed.RunLists.totals_of.Goals as goal

pub returns-clause-told : goal.returns-clause-told
returns-clause-told c t was =
    let lists = c.args.self.now in
    let names = c.args.events.now in
    let own : List ℕ → ℕ = self_sum lists.events in
    let calls : List ℕ → ℕ = calls_sum lists.events in
    let all = take_all c.loop-event.event-index names c.loop-event-test.false in
    record {
      self_cost = c.loop-event.invariant.0 ∙ ap (map own) all ∙ map_same own (held_self t) names (self_told t lists was);
      call_cost = c.loop-event.invariant.1 ∙ ap (map calls) all ∙ map_same calls (held_calls t) names (calls_told t lists was);
      call_count = c.in_ok-call_count.ensures.read ∙ ap (sum_by (λ (r : ListedRun). r.call_count)) c.deref.ensures.value ∙ sum_row run_row (λ (r : RunRow). r.call_count) lists.runs.items t.runs was.runs;
    }

pub returns-in_err-call_count-clause-serves : goal.returns-in_err-call_count-clause-serves
returns-in_err-call_count-clause-serves c = λ t was fit.
    let told = ap (sum_by (λ (r : ListedRun). r.call_count)) c.deref.ensures.value ∙ sum_row run_row (λ (r : RunRow). r.call_count) c.args.self.now.runs.items t.runs was.runs in
    let over = c.in_err-call_count.ensures.refused in
    absurd (omega (arith, fit.call_count, told, over))

pub returns-in_err-sums-clause-serves : goal.returns-in_err-sums-clause-serves
returns-in_err-sums-clause-serves c = λ t was fit.
    let lists = c.args.self.now in
    let names = c.args.events.now in
    let at = c.loop-event.event-index in
    let name = get_or names at c.event-item.result in
    let own = All-from_recursion (λ n. held_self t n < sum_end) names fit.self_cost at c.event-item.result c.loop-event-test.true in
    let calls = All-from_recursion (λ n. held_calls t n < sum_end) names fit.call_cost at c.event-item.result c.loop-event-test.true in
    let refused : self_sum lists.events name < sum_end → sum_end ≤ calls_sum lists.events name =
    subst₂ (λ events n. self_sum events n < sum_end → sum_end ≤ calls_sum events n) c.all.ensures (c.as_slice.ensures ∙ c.event-item.is) c.in_err-sums.ensures.refused in
    let here = self_told t lists was name in
    let there = calls_told t lists was name in
    let over = refused (omega (arith, own, here)) in
    absurd (omega (arith, over, calls, there))
