use Rattle.cost_exports.proofs.StackLemmas.{same_folded}
use Rattle.cost_exports.proofs.laws.folded_stacks_sum_to_the_stacks.Goals as goal

pub returns : goal.returns
returns c = same_folded
