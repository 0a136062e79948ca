use Rattle.std.proofs.lemmas.Result.{IfOk-from_err}
use Rattle.cost_reports.proofs.key_texts.push_row.Goals as goal

pub returns-in_err-push_cost : goal.returns-in_err-push_cost
returns-in_err-push_cost c = IfOk-from_err c.from_residual.result _ c.from_residual.ensures.0
