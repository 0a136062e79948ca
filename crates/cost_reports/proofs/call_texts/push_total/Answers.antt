use Rattle.std.proofs.lemmas.Result.{IfOk-from_err}
use Rattle.cost_reports.proofs.call_texts.push_total.Goals as goal

pub returns-in_err-push_pair : goal.returns-in_err-push_pair
returns-in_err-push_pair c = IfOk-from_err c.from_residual.result _ c.from_residual.ensures.0
