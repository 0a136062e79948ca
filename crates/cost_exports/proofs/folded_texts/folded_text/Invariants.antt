use Rattle.std.proofs.Common.{◌≡◌, ◌++◌}
use Rattle.cost_rows.specs.Stacks.{by_bytes}
use Rattle.report_texts.specs.Folded.{folded_text}
use Rattle.cost_exports.proofs.folded_texts.folded_text.Given as goal

-- the lines so far, and those to come
abbrev pub invariant-loop-stack : goal.invariant-loop-stack
invariant-loop-stack l = l.text.items ++ folded_text (by_bytes l.stack-iterator) ≡ folded_text l.sums
