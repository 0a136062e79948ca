use Rattle.std.proofs.lemmas.Result.{IfOk-from_err}
use Rattle.line_fills.proofs.records.Records.slices.Goals as goal

pub returns-in_err-slices : goal.returns-in_err-slices
returns-in_err-slices c = IfOk-from_err c.from_residual.result _ c.from_residual.ensures.0

pub returns-in_err-push : goal.returns-in_err-push
returns-in_err-push c = IfOk-from_err c.from_residual-in_err-push.result _ c.from_residual-in_err-push.ensures.0
