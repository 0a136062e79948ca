use Rattle.folded_reader.proofs.FrameLemmas.{leaf-last}
use Rattle.folded_reader.proofs.laws.the_leaf_is_the_last_function.Goals as goal

pub returns : goal.returns
returns c = leaf-last
