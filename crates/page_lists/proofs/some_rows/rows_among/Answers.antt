use Rattle.std.proofs.Common.{map, ap, sym, ◌∙◌, subst, IsPermutation}
use Rattle.std.proofs.lemmas.Result.{IfOk-weaker}
use Rattle.std.proofs.lemmas.List.Sorted.{IsNonDecreasingBy-from_sort}
use Rattle.std.specs.List.Sorted.{IsNonDecreasing}
use Rattle.page_lists.proofs.Among.{among_same}
use Rattle.page_lists.proofs.some_rows.rows_among.Goals as goal

pub returns-clause-read : goal.returns-clause-read
returns-clause-read g c faithful rows is =
    let l = g.L.FromRecord in
    let numbers = c.args.numbers.now in
    let sorted = c.deref.ensures.value in
    let rises = subst IsNonDecreasing (sym sorted) (IsNonDecreasingBy-from_sort (λ n. n) c.sort_unstable.new.self.items c.sort_unstable.ensures.sorted) in
    let moved = subst (λ ns. IsPermutation ns c.deref.result.now) (c.in-Ok.ensures.items_if_clones_equal (λ a b same. same))
    (subst (IsPermutation c.in-Ok.sorted.items) (sym sorted) c.sort_unstable.ensures.permutation) in
    IfOk-weaker c.rows_of_sorted.result _ _ (λ lines are. are ∙ ap (map l.seen) (among_same numbers c.deref.result.now moved rows)) (c.rows_of_sorted.ensures.read rises faithful rows is)
