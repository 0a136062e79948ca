use Rattle.report_texts.specs.Costs.{all_costs}
use Rattle.cost_reports.proofs.CostLemmas.{cells_are_records}
use Rattle.cost_reports.proofs.KeyLemmas.{total_of_rows}
use Rattle.cost_reports.proofs.laws.cells_sum_to_the_records.Goals as goal

pub returns-clause-sums : goal.returns-clause-sums
returns-clause-sums c = cells_are_records

pub returns-clause-total : goal.returns-clause-total
returns-clause-total c = λ key files. total_of_rows key (all_costs files)
