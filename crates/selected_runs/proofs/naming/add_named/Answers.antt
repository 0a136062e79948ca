use Rattle.std.proofs.lemmas.Result.{IfOk-from_err}
use Rattle.selected_runs.proofs.naming.add_named.Goals as goal

pub returns-in_err-row-clause-sums : goal.returns-in_err-row-clause-sums
returns-in_err-row-clause-sums g c = IfOk-from_err c.from_residual.result _ c.from_residual.ensures.0

pub returns-in_err-row-clause-held : goal.returns-in_err-row-clause-held
returns-in_err-row-clause-held g c = IfOk-from_err c.from_residual.result _ c.from_residual.ensures.0

pub returns-in_err-add-clause-sums : goal.returns-in_err-add-clause-sums
returns-in_err-add-clause-sums g c = IfOk-from_err c.from_residual-in_err-add.result _ c.from_residual-in_err-add.ensures.0

pub returns-in_err-add-clause-held : goal.returns-in_err-add-clause-held
returns-in_err-add-clause-held g c = IfOk-from_err c.from_residual-in_err-add.result _ c.from_residual-in_err-add.ensures.0
