use Rattle.selected_runs.proofs.OnceNamed.{once_named}
use Rattle.selected_runs.proofs.sum_laws.once_named_sums_are_those_of_the_rows.Goals as goal

pub returns : goal.returns
returns c = λ names key rows apart held. once_named names apart key rows held
