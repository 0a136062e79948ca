use Rattle.selected_runs.proofs.RunLemmas.{runs_cost, runs_have_event}
use Rattle.selected_runs.proofs.laws.runs_cost_what_files_cost.Goals as goal

pub returns-clause-event : goal.returns-clause-event
returns-clause-event c = runs_have_event

pub returns-clause-costs : goal.returns-clause-costs
returns-clause-costs c = runs_cost
