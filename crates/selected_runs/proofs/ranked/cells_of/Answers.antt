use Rattle.std.proofs.lemmas.Result.{IfOk-from_err}
use Rattle.selected_runs.proofs.ranked.cells_of.Goals as goal

pub returns-in_err-cells-clause-sums : goal.returns-in_err-cells-clause-sums
returns-in_err-cells-clause-sums g c = IfOk-from_err c.from_residual.result _ c.from_residual.ensures.0

pub returns-in-Ok-clause-sums : goal.returns-in-Ok-clause-sums
returns-in-Ok-clause-sums g c = c.in-Ok.ensures.sums

pub returns-in-Ok-clause-held : goal.returns-in-Ok-clause-held
returns-in-Ok-clause-held g c = c.in-Ok.ensures.held

pub returns-in-Err-clause-sums : goal.returns-in-Err-clause-sums
returns-in-Err-clause-sums g c = tt

pub returns-in-Err-clause-held : goal.returns-in-Err-clause-held
returns-in-Err-clause-held g c = c.in-Err.ensures.held
