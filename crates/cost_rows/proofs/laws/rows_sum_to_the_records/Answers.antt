use Rattle.cost_rows.proofs.OrderLemmas.{records-order}
use Rattle.cost_rows.proofs.SumsLemmas.{sums-records}
use Rattle.cost_rows.proofs.laws.rows_sum_to_the_records.Goals as goal

pub returns-clause-sums : goal.returns-clause-sums
returns-clause-sums c = sums-records

pub returns-clause-order : goal.returns-clause-order
returns-clause-order c = records-order
