use Rattle.std.proofs.lemmas.Result.{IfOk-from_err}
use Rattle.cost_reports.proofs.key_texts.push_head.Goals as goal

pub returns-in_err-push_bytes : goal.returns-in_err-push_bytes
returns-in_err-push_bytes c = IfOk-from_err c.from_residual.result _ c.from_residual.ensures.0
