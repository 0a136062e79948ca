use Rattle.std.proofs.lemmas.Result.{IfOk-from_err}
use Rattle.cost_reports.proofs.key_texts.push_last_part.Goals as goal

pub returns-in_err-push : goal.returns-in_err-push
returns-in_err-push c = IfOk-from_err c.from_residual.result _ c.from_residual.ensures.0

pub returns-in_err-push_part : goal.returns-in_err-push_part
returns-in_err-push_part c = IfOk-from_err c.from_residual-in_err-push_part.result _ c.from_residual-in_err-push_part.ensures.0
