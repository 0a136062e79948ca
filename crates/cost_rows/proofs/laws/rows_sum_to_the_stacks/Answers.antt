use Rattle.cost_rows.proofs.OrderLemmas.{stacks-order}
use Rattle.cost_rows.proofs.StackSumsLemmas.{sums-stacks}
use Rattle.cost_rows.proofs.laws.rows_sum_to_the_stacks.Goals as goal

pub returns-clause-sums : goal.returns-clause-sums
returns-clause-sums c = sums-stacks

pub returns-clause-order : goal.returns-clause-order
returns-clause-order c = stacks-order
