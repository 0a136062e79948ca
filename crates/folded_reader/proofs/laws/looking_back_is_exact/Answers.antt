use Rattle.folded_reader.proofs.ExactLemmas.{exact-fault, exact-stacks}
use Rattle.folded_reader.proofs.laws.looking_back_is_exact.Goals as goal

pub returns-clause-fault : goal.returns-clause-fault
returns-clause-fault c = exact-fault

pub returns-clause-stacks : goal.returns-clause-stacks
returns-clause-stacks c = exact-stacks
