use Rattle.std.proofs.lemmas.Result.{IfOk-from_err}
use Rattle.cost_reports.proofs.difference_texts.push_row.Goals as goal

pub returns-in_err-push_difference : goal.returns-in_err-push_difference
returns-in_err-push_difference c = IfOk-from_err c.from_residual.result _ c.from_residual.ensures.0
