use Rattle.histories.proofs.Runs.{tells_group_of}
use Rattle.histories.proofs.laws.tables_represent_each_group.Goals as goal

pub returns : goal.returns
returns c = λ h t name represent. tells_group_of h t represent name
