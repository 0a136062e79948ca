use Rattle.cost_reports.proofs.InclusiveLemmas.{inclusive_are_records}
use Rattle.cost_reports.proofs.laws.inclusive_costs_sum_to_the_records.Goals as goal

pub returns : goal.returns
returns c = inclusive_are_records
