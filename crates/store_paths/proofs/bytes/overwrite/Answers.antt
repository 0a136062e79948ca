use Rattle.std.proofs.Common.{refl, arith}
use Rattle.std.proofs.lemmas.Result.{IfOk-from_err}
use Rattle.store_paths.proofs.bytes.overwrite.Goals as goal

pub returns-in_err-end-clause-written : goal.returns-in_err-end-clause-written
returns-in_err-end-clause-written c = IfOk-from_err c.from_residual.result _ c.from_residual.ensures.0

pub returns-in_err-resize-clause-written : goal.returns-in_err-resize-clause-written
returns-in_err-resize-clause-written c = IfOk-from_err c.from_residual-in_err-resize.result _ c.from_residual-in_err-resize.ensures.0

pub returns-in_err-end-clause-others : goal.returns-in_err-end-clause-others
returns-in_err-end-clause-others c = record { no_shorter = omega arith; no_longer = omega arith; below = λ i old here. refl; above = λ i old here. refl }
