use Rattle.std.proofs.Common.{List, ℕ, ap, ◌∙◌, arith}
use Rattle.std.proofs.lemmas.Result.{on_ok_weaker}
use Rattle.cost_rows.specs.Merging.{merge}
use Rattle.cost_rows.specs.Stacks.{counts_added}
use Rattle.cost_rows.proofs.SeenLemmas.{seen-with, sum-seen}
use Rattle.report_texts.specs.Amounts.{amount_of}
use Rattle.cost_exports.specs.Views.{LineEvent, held_line, line_cmp}
use Rattle.cost_exports.proofs.line_costs.LineCosts.add.Goals as goal

pub merge_cost-requires : goal.merge_cost-requires
merge_cost-requires c =
    let held = sum-seen held_line c.self.inside.costs.entries in
    let view = ap (λ (costs : List (LineEvent × ℕ)). amount_of costs) c.self.view_is in
    record { small = omega (arith, held, view, c.requires.small) }

pub returns-clause-ok : goal.returns-clause-ok
returns-clause-ok c =
    on_ok_weaker c.merge_cost.result
    (λ is.
    seen-with held_line line_cmp counts_added c.self.inside.costs.entries c.merge_cost.new.sums.entries c.in_ok-share.field-0 (held_line c.args.line.now) c.args.cost is c.in_ok-share.ensures
    ∙ ap (λ (costs : List (LineEvent × ℕ)). merge line_cmp counts_added costs (held_line c.args.line.now) c.args.cost) c.self.view_is)
    c.merge_cost.ensures.ok
