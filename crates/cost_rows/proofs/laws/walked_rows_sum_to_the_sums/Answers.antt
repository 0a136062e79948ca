use Rattle.cost_rows.proofs.AboveLemmas.{cells-above, stacks-above}
use Rattle.cost_rows.proofs.WalkSumsLemmas.{walked-cells, walked-costs, walked-counts, walked-calls, walked-stacks}
use Rattle.cost_rows.proofs.laws.walked_rows_sum_to_the_sums.Goals as goal

pub returns-clause-sums : goal.returns-clause-sums
returns-clause-sums c = λ rows. record {
  cells = λ passes k. walked-cells passes k rows.names rows.cells;
  calls = λ passes k. walked-costs passes k rows.names rows.calls;
  counts = λ passes. walked-counts passes rows.names rows.calls;
  called = λ passes. walked-calls passes rows.names rows.calls;
  stacks = λ passes. walked-stacks passes rows.stacks;
}

pub returns-clause-above : goal.returns-clause-above
returns-clause-above c = λ rows. (cells-above rows.names rows.cells, stacks-above rows.stacks)
