use Rattle.std.proofs.Common.{◌≡◌, ◌+◌, ◌++◌, ◌∷◌, ◌∙◌, [], get_or, map, take, ap, subst, sym, inr}
use Rattle.run_stores.specs.SelfSums.{sums_from}
use Rattle.run_lists.specs.Sums.{placed_sum}
use Rattle.run_lists.proofs.PlacedSums.{place_is}
use Rattle.run_lists.proofs.Rows.{is_ok_then}
use Rattle.run_lists.proofs.SumLists.{sums_more}
use Rattle.run_lists.proofs.sums.sums_in_order.Goals as goal

pub loop-place-preserved : goal.loop-place-preserved
loop-place-preserved c =
    let placed = c.args.placed.now in
    let at = c.loop-place.place-index in
    let sums = c.loop-place.sums in
    let pushed : c.push.new.self ≡ sums ++ (get_or placed at (0, 0)).1 ∷ [] =
    is_ok_then c.push.result c.if-is_err.ensures.negation c.push.ensures.ok ∙ ap (λ n. sums ++ n ∷ []) c.from.ensures in
    subst (λ l. sums_from 0 l ≡ map placed_sum (take (at + 1) placed)) (sym pushed)
    (sums_more placed at sums c.loop-place-test.true (c.if-place-len.false ∙ c.len.ensures) c.loop-place.invariant)

pub returns-then-place-len-clause-refused : goal.returns-then-place-len-clause-refused
returns-then-place-len-clause-refused c =
    inr (λ sums are. c.if-place-len.true (place_is c.args.placed.now c.loop-place.place-index c.loop-place.sums sums c.loop-place-test.true c.loop-place.invariant are ∙ sym c.len.ensures))
