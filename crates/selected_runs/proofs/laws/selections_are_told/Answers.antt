use Rattle.selected_runs.proofs.EventLemmas.{event_runs_told}
use Rattle.selected_runs.proofs.SelectLemmas.{selected_told}
use Rattle.selected_runs.proofs.laws.selections_are_told.Goals as goal

pub returns-clause-selected : goal.returns-clause-selected
returns-clause-selected c = selected_told

pub returns-clause-event : goal.returns-clause-event
returns-clause-event c = event_runs_told
