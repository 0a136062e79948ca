use Rattle.cost_reports.proofs.CutLemmas.{shortest_enough}
use Rattle.cost_reports.proofs.laws.the_fewest_rows_are_shown.Goals as goal

pub returns : goal.returns
returns c = shortest_enough
