use Rattle.std.proofs.Common.{◌≡◌, ◌≤◌, ◌∙◌, length, sym, subst, arith, IsPermutation}
use Rattle.std.specs.List.{AllByRecursion}
use Rattle.run_stores.specs.Book.{IsHeld}
use Rattle.selected_runs.specs.Sums.{numbers_total}
use Rattle.selected_runs.proofs.EnoughLemmas.{total_moved}
use Rattle.store_reports.proofs.ShownLemmas.{held_of_all}
use Rattle.store_reports.proofs.reporting.shown_sums.Goals as goal

pub returns-then-len-count-clause-told : goal.returns-then-len-count-clause-told
returns-then-len-count-clause-told g c clean t reads =
    let ranked = c.ranked-shown.result.sums in
    let moved : IsPermutation ranked c.args.sums.sums = c.ranked-shown.ensures.sums in
    let total : c.ranked-shown.result.total ≡ numbers_total c.args.sums.sums = c.ranked-shown.ensures.total in
    let whole : numbers_total ranked ≡ c.ranked-shown.result.total = sym (total_moved ranked c.args.sums.sums moved) ∙ sym total in
    let enough = c.keep_shown.ensures.enough whole in
    let few = c.len.ensures in
    let all = c.len-count.ensures in
    let as_many = c.if-len-count.true in
    let many : length ranked ≤ length c.keep_shown.new.self.sums = omega (arith, few, all, as_many) in
    record {
      key = c.keep_shown.ensures.key ∙ c.ranked-shown.ensures.key;
      total = c.keep_shown.ensures.total ∙ total;
      ranked = ranked;
      moved = moved;
      enough = enough;
      held = held_of_all t.names c.args.sums.key c.args.cut ranked c.args.sums.sums c.keep_shown.new.self.sums moved enough many;
    }

pub returns-then-branch-clause-told : goal.returns-then-branch-clause-told
returns-then-branch-clause-told g c clean t reads =
    let ranked = c.ranked-shown.result.sums in
    let moved : IsPermutation ranked c.args.sums.sums = c.ranked-shown.ensures.sums in
    let total : c.ranked-shown.result.total ≡ numbers_total c.args.sums.sums = c.ranked-shown.ensures.total in
    let whole : numbers_total ranked ≡ c.ranked-shown.result.total = sym (total_moved ranked c.args.sums.sums moved) ∙ sym total in
    let held = (c.in_ok-held.ensures.told clean t reads).0 c.if-branch.true in
    record {
      key = c.keep_shown.ensures.key ∙ c.ranked-shown.ensures.key;
      total = c.keep_shown.ensures.total ∙ total;
      ranked = ranked;
      moved = moved;
      enough = c.keep_shown.ensures.enough whole;
      held = λ _. subst (AllByRecursion (IsHeld t.names)) (c.deref.ensures.value ∙ c.in_ok-numbers.ensures) held;
    }
