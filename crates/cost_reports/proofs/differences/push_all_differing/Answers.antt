use Rattle.std.proofs.Common.{◌≡◌, ◌++◌, ◌∷◌, List, Some, refl, sym, ap, ap₂, subst, ◌∙◌}
use Rattle.cost_rows.specs.Keys.{lent_place}
use Rattle.report_texts.specs.Differences.{beside, differing}
use Rattle.cost_reports.specs.InStep.{from_row, left_of, ComesNext, IsInOrder}
use Rattle.cost_reports.specs.Rows.{lent_sums, plain_differences}
use Rattle.cost_reports.specs.declared.rows.DifferenceRow.{DifferenceRow}
use Rattle.cost_reports.proofs.StepLemmas.{differing_so_far, next_left, now_left}
use Rattle.cost_reports.proofs.differences.push_all_differing.Goals.{then-next, else-next}
use Rattle.cost_reports.proofs.differences.push_all_differing.Goals as goal

pub places-init : goal.places-init
places-init c =
    let firsts = from_row c.next_row-left.result (lent_sums c.next_row-left.new.sums) in
    let seconds = from_row c.next_row-right.result (lent_sums c.next_row-right.new.sums) in
    let first : firsts ≡ c.args.first.now.sums = sym c.next_row-left.ensures ∙ c.iter-firsts.ensures.sums in
    let second : seconds ≡ c.args.second.now.sums = sym c.next_row-right.ensures ∙ c.iter-seconds.ensures.sums in
    record {
      rows = ap₂ (λ (items : List DifferenceRow) l. plain_differences items ++ differing l) c.requires (ap₂ beside first second);
      one = subst IsInOrder (sym first) c.iter-firsts.ensures.order;
      two = subst IsInOrder (sym second) c.iter-seconds.ensures.order;
    }

pub places-preserved : goal.places-preserved
places-preserved c =
    let next = c.in-Some.next in
    let i = c.places.invariant in
    let comes : ComesNext c.places.left (lent_sums c.places.firsts) c.places.right (lent_sums c.places.seconds) (Some next) = rw c.in-Some.is at (c.next_of.ensures _ _ i.one i.two) in
    let first : left_of next.of_first c.places.left (lent_sums c.places.firsts) ≡ from_row c.if-next.left (lent_sums c.if-next.firsts) =
    elim c.if-next.branch [
      | then-next w ↦ next_left next.of_first c.places.left c.if-next.left (lent_sums c.places.firsts) (lent_sums c.if-next.firsts) w.if-next.true (w.next_row-left-then-next.ensures ∙ ap₂ (λ r l. from_row r (lent_sums l)) (sym w.left-is) (sym w.firsts-is))
      | else-next w ↦ now_left next.of_first c.places.left c.if-next.left (lent_sums c.places.firsts) w.if-next.false w.left-is ∙ ap (λ l. from_row c.if-next.left (lent_sums l)) (sym w.firsts-is)
    ] in
    let second = now_left next.of_second c.places.right c.places.right (lent_sums c.places.seconds) c.if-next-2.false refl in
    record {
      rows = differing_so_far _ _ _ _ _ (beside c.args.first.now.sums c.args.second.now.sums) (comes.0 ∙ ap₂ (λ f s. (lent_place next.place, next.pair) ∷ beside f s) first second) c.in_ok-push_differing.ensures i.rows;
      one = subst IsInOrder first comes.1;
      two = subst IsInOrder second comes.2;
    }

pub places-preserved-then-next-2 : goal.places-preserved-then-next-2
places-preserved-then-next-2 c =
    let next = c.in-Some.next in
    let i = c.places.invariant in
    let comes : ComesNext c.places.left (lent_sums c.places.firsts) c.places.right (lent_sums c.places.seconds) (Some next) = rw c.in-Some.is at (c.next_of.ensures _ _ i.one i.two) in
    let first : left_of next.of_first c.places.left (lent_sums c.places.firsts) ≡ from_row c.if-next.left (lent_sums c.if-next.firsts) =
    elim c.if-next.branch [
      | then-next w ↦ next_left next.of_first c.places.left c.if-next.left (lent_sums c.places.firsts) (lent_sums c.if-next.firsts) w.if-next.true (w.next_row-left-then-next.ensures ∙ ap₂ (λ r l. from_row r (lent_sums l)) (sym w.left-is) (sym w.firsts-is))
      | else-next w ↦ now_left next.of_first c.places.left c.if-next.left (lent_sums c.places.firsts) w.if-next.false w.left-is ∙ ap (λ l. from_row c.if-next.left (lent_sums l)) (sym w.firsts-is)
    ] in
    let n = c.next_row-right-then-next-2 in
    let second = next_left next.of_second c.places.right n.result (lent_sums c.places.seconds) (lent_sums n.new.sums) c.if-next-2.true n.ensures in
    record {
      rows = differing_so_far _ _ _ _ _ (beside c.args.first.now.sums c.args.second.now.sums) (comes.0 ∙ ap₂ (λ f s. (lent_place next.place, next.pair) ∷ beside f s) first second) c.in_ok-push_differing.ensures i.rows;
      one = subst IsInOrder first comes.1;
      two = subst IsInOrder second comes.2;
    }
