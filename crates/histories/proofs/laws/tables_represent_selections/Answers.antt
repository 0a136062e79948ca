use Rattle.histories.proofs.Selections.{are_selected, tells_selected}
use Rattle.histories.proofs.laws.tables_represent_selections.Goals as goal

pub returns-clause-files : goal.returns-clause-files
returns-clause-files c = are_selected

pub returns-clause-runs : goal.returns-clause-runs
returns-clause-runs c = tells_selected
