use Rattle.std.proofs.Common.{sym, ap, ◌∙◌}
use Rattle.std.specs.Ordering.{nat_cmp}
use Rattle.std.proofs.lemmas.Result.{on_ok_weaker}
use Rattle.report_texts.specs.Amounts.{amount_of}
use Rattle.cost_exports.proofs.AmountLemmas.{amount-with, with_some}
use Rattle.cost_exports.proofs.LineLemmas.{nat_apart}
use Rattle.cost_exports.proofs.line_sums.add_cost.Goals as goal

pub returns-clause-ok : goal.returns-clause-ok
returns-clause-ok c = on_ok_weaker c.merge_cost.result (λ is. is ∙ sym (with_some nat_cmp c.args.sums.now.entries c.args.line c.args.cost c.if-cost-eq0.false)) c.merge_cost.ensures.ok

pub returns-clause-total : goal.returns-clause-total
returns-clause-total c = on_ok_weaker c.merge_cost.result (λ is. ap amount_of is ∙ amount-with nat_apart c.args.sums.now.entries c.args.line c.args.cost) (returns-clause-ok c)
