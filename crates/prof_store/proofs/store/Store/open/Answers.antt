use Rattle.prof_store.proofs.Opening.{opened_by, right_by}
use Rattle.prof_store.proofs.store.Store.open.Goals as goal

pub returns-in-Ok-clause-opened : goal.returns-in-Ok-clause-opened
returns-in-Ok-clause-opened g c clean = opened_by g.S.Store _ _ _ (c.in-Ok.ensures clean)

pub returns-in-Err-clause-refused : goal.returns-in-Err-clause-refused
returns-in-Err-clause-refused g c clean = opened_by g.S.Store _ _ _ (c.in-Err.ensures clean)

pub returns-in-Err-clause-right : goal.returns-in-Err-clause-right
returns-in-Err-clause-right g c clean = right_by g.S.Store _ _ _ (c.in-Err.ensures clean)
