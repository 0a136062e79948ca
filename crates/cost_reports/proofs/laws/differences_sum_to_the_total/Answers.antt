use Rattle.cost_reports.proofs.DifferenceLemmas.{come_to_the_total}
use Rattle.cost_reports.proofs.laws.differences_sum_to_the_total.Goals as goal

pub returns : goal.returns
returns c = come_to_the_total
