use Rattle.std.proofs.Common.{◌+◌, ◌++◌, length, sym, ap, ◌∙◌}
use Rattle.cg_text.specs.Lines.{lines_of}
use Rattle.report_texts.specs.Annotations.{cost_of_lines, outside_cost, source_lines, source_text}
use Rattle.cost_exports.proofs.LineLemmas.{total-shown}
use Rattle.cost_exports.proofs.annotations.push_lines.Goals as goal

pub loop-number-init : goal.loop-number-init
loop-number-init c =
    let costs = c.args.sums.now.costs in
    let all = c.into_iter-number-iterator.ensures.into_iter_gives ∙ c.new-number-items.ensures in
    record {
      text = ap (λ lines. c.args.text.now.items ++ source_text (source_lines costs lines)) all;
      left = c.total-left.ensures.value ∙ total-shown costs (lines_of c.args.source.now)
          ∙ ap (λ lines. cost_of_lines (source_lines costs lines) + outside_cost (length (lines_of c.args.source.now)) costs) (sym all);
    }
