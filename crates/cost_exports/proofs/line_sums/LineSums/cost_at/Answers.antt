use Rattle.std.proofs.Common.{unwrap_or, ap, ◌∙◌}
use Rattle.report_texts.specs.Annotations.{FileCosts, cost_at}
use Rattle.cost_exports.proofs.LineLemmas.{cost-found}
use Rattle.cost_exports.proofs.line_sums.LineSums.cost_at.Goals as goal

pub returns : goal.returns
returns c =
    c.unwrap_or.ensures ∙ ap (λ o. unwrap_or o 0) (c.copied.ensures ∙ c.get.ensures.value)
    ∙ cost-found c.args.line c.self.inside.sums.entries c.len-ordered.ensures.ordered
    ∙ ap (λ (costs : FileCosts). cost_at c.args.line costs.costs) c.self.view_is
