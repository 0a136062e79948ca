use Rattle.std.proofs.Common.{◌≡◌, ◌+◌, ◌++◌, length}
use Rattle.cg_text.specs.Lines.{lines_of, numbered}
use Rattle.report_texts.specs.Annotations.{cost_of_lines, outside_cost, source_lines, source_text}
use Rattle.cost_exports.proofs.annotations.push_lines.Given as goal

-- the lines so far, and those to come; what these cost, and what is outside
abbrev pub invariant-loop-number : goal.invariant-loop-number
invariant-loop-number l = record {
  text : l.text.items ++ source_text (source_lines l.sums.costs l.number-iterator) ≡ l.initial.text.items ++ source_text (source_lines l.sums.costs (numbered 1 (lines_of l.source)));
  left : l.left ≡ cost_of_lines (source_lines l.sums.costs l.number-iterator) + outside_cost (length (lines_of l.source)) l.sums.costs;
}
