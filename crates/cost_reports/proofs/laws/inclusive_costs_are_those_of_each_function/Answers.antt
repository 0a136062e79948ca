use Rattle.cost_reports.proofs.FunctionLemmas.{costs_of_function}
use Rattle.cost_reports.proofs.laws.inclusive_costs_are_those_of_each_function.Goals as goal

pub returns : goal.returns
returns c = costs_of_function
