use Rattle.std.proofs.Common.{sym}
use Rattle.cg_text.specs.Lines.{lines_of}
use Rattle.cost_exports.proofs.LineLemmas.{total-shown}
use Rattle.cost_exports.proofs.laws.shown_and_outside_are_the_total.Goals as goal

pub returns : goal.returns
returns c = λ file source costs. sym (total-shown costs (lines_of source))
