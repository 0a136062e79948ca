use Rattle.std.proofs.lemmas.Result.{IfOk-from_err}
use Rattle.page_lists.proofs.opening.open_store.Goals as goal

pub returns-clause-opened : goal.returns-clause-opened
returns-clause-opened g c faithful = λ db known is. c.in_ok-roots.ensures.read faithful db known is

pub returns-in_err-roots-clause-opened : goal.returns-in_err-roots-clause-opened
returns-in_err-roots-clause-opened g c = IfOk-from_err c.from_residual.result _ c.from_residual.ensures.0

pub returns-in_err-roots-clause-indexed : goal.returns-in_err-roots-clause-indexed
returns-in_err-roots-clause-indexed g c = IfOk-from_err c.from_residual.result _ c.from_residual.ensures.0

pub returns-in_err-roots-clause-usable : goal.returns-in_err-roots-clause-usable
returns-in_err-roots-clause-usable g c = IfOk-from_err c.from_residual.result _ c.from_residual.ensures.0

pub returns-in_err-roots-clause-reads : goal.returns-in_err-roots-clause-reads
returns-in_err-roots-clause-reads g c = IfOk-from_err c.from_residual.result _ c.from_residual.ensures.0

pub returns-clause-indexed : goal.returns-clause-indexed
returns-clause-indexed g c = c.in_ok-roots.ensures.indexed

pub returns-clause-usable : goal.returns-clause-usable
returns-clause-usable g c = c.in_ok-roots.ensures.usable

pub returns-clause-reads : goal.returns-clause-reads
returns-clause-reads g c = c.read_store.ensures.reads

pub returns-in_err-roots-clause-tables : goal.returns-in_err-roots-clause-tables
returns-in_err-roots-clause-tables g c = IfOk-from_err c.from_residual.result _ c.from_residual.ensures.0

pub returns-clause-tables : goal.returns-clause-tables
returns-clause-tables g c = c.in_ok-roots.ensures.tables
