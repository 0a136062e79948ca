use Rattle.std.proofs.lemmas.Result.{IfOk-from_err}
use Rattle.page_lists.proofs.lists.read_lists.Goals as goal

pub returns-in_err-lists-clause-listed : goal.returns-in_err-lists-clause-listed
returns-in_err-lists-clause-listed g c = λ faithful t db holds roots. IfOk-from_err c.from_residual.result _ c.from_residual.ensures.0

pub returns-in_err-lists-clause-held : goal.returns-in_err-lists-clause-held
returns-in_err-lists-clause-held g c = IfOk-from_err c.from_residual.result _ c.from_residual.ensures.0

pub returns-in_err-lists-clause-usable : goal.returns-in_err-lists-clause-usable
returns-in_err-lists-clause-usable g c = IfOk-from_err c.from_residual.result _ c.from_residual.ensures.0

pub returns-in_err-lists-clause-reads : goal.returns-in_err-lists-clause-reads
returns-in_err-lists-clause-reads g c = c.read_tables.ensures.reads

pub returns-in_err-check_runs-clause-listed : goal.returns-in_err-check_runs-clause-listed
returns-in_err-check_runs-clause-listed g c = λ faithful t db holds roots. IfOk-from_err c.from_residual-in_err-check_runs.result _ c.from_residual-in_err-check_runs.ensures.0

pub returns-in_err-check_runs-clause-held : goal.returns-in_err-check_runs-clause-held
returns-in_err-check_runs-clause-held g c = IfOk-from_err c.from_residual-in_err-check_runs.result _ c.from_residual-in_err-check_runs.ensures.0

pub returns-in_err-check_runs-clause-usable : goal.returns-in_err-check_runs-clause-usable
returns-in_err-check_runs-clause-usable g c = IfOk-from_err c.from_residual-in_err-check_runs.result _ c.from_residual-in_err-check_runs.ensures.0

pub returns-in_err-check_runs-clause-reads : goal.returns-in_err-check_runs-clause-reads
returns-in_err-check_runs-clause-reads g c = c.read_tables.ensures.reads

pub returns-clause-reads : goal.returns-clause-reads
returns-clause-reads g c = c.read_tables.ensures.reads

pub returns-clause-listed : goal.returns-clause-listed
returns-clause-listed g c = λ faithful t db holds roots. c.in_ok-lists.ensures.listed faithful t db holds roots

pub returns-clause-usable : goal.returns-clause-usable
returns-clause-usable g c = c.in_ok-lists.ensures.usable
