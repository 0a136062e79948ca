use Rattle.std.proofs.Common.{sym, subst}
use Rattle.sqlite.specs.Held.{state}
use Rattle.sqlite.specs.State.{HasCleanDisk}
use Rattle.host_stores.specs.Stores.{TakesUp}
use Rattle.host_stores.proofs.stores.ready_in.Goals as goal

pub returns-in-Ok : goal.returns-in-Ok
returns-in-Ok g c clean =
    let same = c.into_connection.ensures in
    subst (TakesUp g.S.Store c.args.is_new c.args.conn) (sym same) (c.in-Ok.ensures.taken_up (subst (λ conn. HasCleanDisk (state g.S.Store conn)) same clean))
