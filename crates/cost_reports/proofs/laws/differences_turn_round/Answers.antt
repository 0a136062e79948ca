use Rattle.cost_reports.proofs.DifferenceLemmas.{less_itself, less_backwards}
use Rattle.cost_reports.proofs.laws.differences_turn_round.Goals as goal

pub returns-clause-itself : goal.returns-clause-itself
returns-clause-itself c = less_itself

pub returns-clause-backwards : goal.returns-clause-backwards
returns-clause-backwards c = less_backwards
