use Rattle.histories.proofs.Heads.{held_head_told, verified_told}
use Rattle.histories.proofs.laws.tables_represent_each_head.Goals as goal

pub returns-clause-told : goal.returns-clause-told
returns-clause-told c = held_head_told

pub returns-clause-verified : goal.returns-clause-verified
returns-clause-verified c = verified_told
