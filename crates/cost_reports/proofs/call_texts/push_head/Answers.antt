use Rattle.std.proofs.lemmas.Result.{IfOk-from_err}
use Rattle.cost_reports.proofs.call_texts.push_head.Goals as goal

pub returns-in_err-push_bytes : goal.returns-in_err-push_bytes
returns-in_err-push_bytes c = IfOk-from_err c.from_residual.result _ c.from_residual.ensures.0

pub returns-in_err-push : goal.returns-in_err-push
returns-in_err-push c = IfOk-from_err c.from_residual-in_err-push.result _ c.from_residual-in_err-push.ensures.0

pub returns-in_err-push_escaped : goal.returns-in_err-push_escaped
returns-in_err-push_escaped c = IfOk-from_err c.from_residual-in_err-push_escaped.result _ c.from_residual-in_err-push_escaped.ensures.0
