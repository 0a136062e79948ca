use Rattle.selected_runs.proofs.NamedSums.{named_at_the_end}
use Rattle.selected_runs.proofs.sum_laws.named_sums_are_those_of_the_rows.Goals as goal

pub returns : goal.returns
returns c = named_at_the_end
