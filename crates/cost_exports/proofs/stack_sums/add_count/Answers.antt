use Rattle.std.proofs.Common.{sym, ap, ◌∙◌, arith}
use Rattle.std.proofs.lemmas.Result.{on_ok_weaker}
use Rattle.cost_rows.specs.Stacks.{bytes_cmp, by_bytes, counts_added}
use Rattle.cost_rows.proofs.SeenLemmas.{seen-with, sum-seen}
use Rattle.report_texts.specs.Amounts.{amount_of}
use Rattle.cost_exports.proofs.AmountLemmas.{amount-with, with_some}
use Rattle.cost_exports.proofs.StackLemmas.{bytes_apart}
use Rattle.cost_exports.proofs.stack_sums.add_count.Goals as goal

pub merge_cost-requires : goal.merge_cost-requires
merge_cost-requires c =
    let held = sum-seen (λ key. key.items) c.args.sums.now.entries in
    record { small = omega (arith, held, c.requires.small) }

pub returns-clause-ok : goal.returns-clause-ok
returns-clause-ok c =
    on_ok_weaker c.merge_cost.result
    (λ is.
    seen-with (λ key. key.items) bytes_cmp counts_added c.args.sums.now.entries c.merge_cost.new.sums.entries c.in_ok-to_vec.field-0 c.args.stack.now c.args.count is (c.in_ok-to_vec.ensures.items_if_clones_equal (λ x y e. e))
    ∙ sym (with_some bytes_cmp (by_bytes c.args.sums.now.entries) c.args.stack.now c.args.count c.if-count-eq0.false))
    c.merge_cost.ensures.ok

pub returns-clause-total : goal.returns-clause-total
returns-clause-total c = on_ok_weaker c.merge_cost.result (λ is. ap amount_of is ∙ amount-with bytes_apart (by_bytes c.args.sums.now.entries) c.args.stack.now c.args.count) (returns-clause-ok c)
