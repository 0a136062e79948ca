use Rattle.std.proofs.lemmas.Result.{IfOk-from_err}
use Rattle.row_writes.proofs.records.make_entry.Goals as goal

pub returns-in_err-push : goal.returns-in_err-push
returns-in_err-push c = IfOk-from_err c.from_residual.result _ c.from_residual.ensures.0
