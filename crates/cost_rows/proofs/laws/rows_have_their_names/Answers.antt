use Rattle.cost_rows.proofs.SumsLemmas.{held-records}
use Rattle.cost_rows.proofs.StackSumsLemmas.{held-stacks}
use Rattle.cost_rows.proofs.laws.rows_have_their_names.Goals as goal

pub returns-clause-records : goal.returns-clause-records
returns-clause-records c = held-records

pub returns-clause-stacks : goal.returns-clause-stacks
returns-clause-stacks c = held-stacks
