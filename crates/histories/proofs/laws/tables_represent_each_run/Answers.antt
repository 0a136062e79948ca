use Rattle.histories.proofs.Runs.{held_as, tells_rows}
use Rattle.histories.proofs.laws.tables_represent_each_run.Goals as goal

pub returns-clause-held : goal.returns-clause-held
returns-clause-held c = λ h t n represent. held_as h t represent n

pub returns-clause-rows : goal.returns-clause-rows
returns-clause-rows c = λ h t f represent. tells_rows h t represent f
