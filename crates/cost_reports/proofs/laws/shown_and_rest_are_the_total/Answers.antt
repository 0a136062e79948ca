use Rattle.std.proofs.Common.{arith}
use Rattle.cost_reports.proofs.CutLemmas.{shown_within}
use Rattle.cost_reports.proofs.KeyLemmas.{total_by_key}
use Rattle.cost_reports.proofs.laws.shown_and_rest_are_the_total.Goals as goal

pub returns-clause-parts : goal.returns-clause-parts
returns-clause-parts c = λ key cut sums. (let h = shown_within cut sums in omega (arith, h))

pub returns-clause-whole : goal.returns-clause-whole
returns-clause-whole c = λ key cut rows. total_by_key key rows
