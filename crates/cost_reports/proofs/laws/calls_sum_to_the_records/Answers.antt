use Rattle.cost_reports.proofs.CallCostLemmas.{calls_are_records}
use Rattle.cost_reports.proofs.laws.calls_sum_to_the_records.Goals as goal

pub returns : goal.returns
returns c = calls_are_records
