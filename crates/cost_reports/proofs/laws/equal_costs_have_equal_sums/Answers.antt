use Rattle.cost_reports.proofs.KeyLemmas.{same_by_key, same_merged_again}
use Rattle.cost_reports.proofs.laws.equal_costs_have_equal_sums.Goals as goal

pub returns-clause-same : goal.returns-clause-same
returns-clause-same c = same_by_key

pub returns-clause-merged : goal.returns-clause-merged
returns-clause-merged c = same_merged_again
