use Rattle.std.proofs.lemmas.Result.{IfOk-from_err}
use Rattle.store_paths.proofs.opening.open_to_look.Goals as goal

pub returns-in_err-key-clause-log : goal.returns-in_err-key-clause-log
returns-in_err-key-clause-log g c = IfOk-from_err c.from_residual.result _ c.from_residual.ensures.0

pub returns-in_err-key-clause-db : goal.returns-in_err-key-clause-db
returns-in_err-key-clause-db g c = IfOk-from_err c.from_residual.result _ c.from_residual.ensures.0

pub returns-in_err-key-clause-fresh : goal.returns-in_err-key-clause-fresh
returns-in_err-key-clause-fresh g c = IfOk-from_err c.from_residual.result _ c.from_residual.ensures.0

pub returns-in_err-log-clause-log : goal.returns-in_err-log-clause-log
returns-in_err-log-clause-log g c = IfOk-from_err c.from_residual-in_err-log.result _ c.from_residual-in_err-log.ensures.0

pub returns-in_err-log-clause-db : goal.returns-in_err-log-clause-db
returns-in_err-log-clause-db g c = IfOk-from_err c.from_residual-in_err-log.result _ c.from_residual-in_err-log.ensures.0

pub returns-in_err-log-clause-fresh : goal.returns-in_err-log-clause-fresh
returns-in_err-log-clause-fresh g c = IfOk-from_err c.from_residual-in_err-log.result _ c.from_residual-in_err-log.ensures.0

pub returns-clause-log : goal.returns-clause-log
returns-clause-log g c = c.pair_of.ensures.log

pub returns-clause-db : goal.returns-clause-db
returns-clause-db g c = c.pair_of.ensures.db

pub returns-clause-fresh : goal.returns-clause-fresh
returns-clause-fresh g c = c.pair_of.ensures.fresh
