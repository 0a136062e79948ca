use Rattle.std.proofs.Common.{◌+◌, refl, sym, ◌∙◌, ap, arith}
use Rattle.std.specs.BTreeMap.{is_at, insert_entry}
use Rattle.cost_rows.specs.Stacks.{counts_added}
use Rattle.cost_rows.proofs.MergeLemmas.{merge-new, merge-written}
use Rattle.cost_rows.proofs.SeenLemmas.{held-least}
use Rattle.cost_rows.proofs.merging.merge_cost.Goals as goal

pub overflow_add-sum : goal.overflow_add-sum
overflow_add-sum g c =
    let least = held-least (is_at (g.K.Ord.cmp c.args.key)) c.args.sums.now.entries c.in-Some.sum.now c.in-Some.ensures.value in
    omega (arith, least, c.requires.small)

pub returns-in-Some-clause-ok : goal.returns-in-Some-clause-ok
returns-in-Some-clause-ok g c =
    merge-written g.met.K.Ord.total counts_added c.args.sums.now (c.get_mut.follows.lender (c.in-Some.sum.now + c.args.cost)) c.args.key c.in-Some.sum.now (c.in-Some.sum.now + c.args.cost) c.args.cost
    (c.get_mut.follows.holds (c.in-Some.sum.now + c.args.cost)) c.get_mut.ensures.ordered c.in-Some.ensures.value refl

pub returns-in_ok-insert-in-None-clause-ok : goal.returns-in_ok-insert-in-None-clause-ok
returns-in_ok-insert-in-None-clause-ok g c =
    c.in_ok-insert-in-None.ensures.entries ∙ ap (λ m. insert_entry g.K.Ord.cmp m.entries c.args.key c.args.cost) c.get_mut.follows.holds-at-none
    ∙ merge-new g.met.K.Ord.total counts_added c.args.sums.now.entries c.args.key c.args.cost (sym c.in-None.ensures.value)
