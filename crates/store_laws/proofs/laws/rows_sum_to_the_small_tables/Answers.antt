use Rattle.store_laws.proofs.Bounds.{sums_small}
use Rattle.store_laws.proofs.RowSums.{calls_told, cells_told, placed, stacks_told}
use Rattle.store_laws.proofs.laws.rows_sum_to_the_small_tables.Goals as goal

pub returns-clause-cells : goal.returns-clause-cells
returns-clause-cells c h t r represent there = cells_told h t represent r there

pub returns-clause-calls : goal.returns-clause-calls
returns-clause-calls c h t r represent there = calls_told h t represent r there

pub returns-clause-stacks : goal.returns-clause-stacks
returns-clause-stacks c h t n kind represent is = stacks_told h t represent n kind is

pub returns-clause-small : goal.returns-clause-small
returns-clause-small c h t r represent there = sums_small h t represent r there

pub returns-clause-placed : goal.returns-clause-placed
returns-clause-placed c h t r represent there = placed h t represent r there
