use Rattle.std.proofs.Common.{sym, subst}
use Rattle.host_stores.specs.NewStores.{IsNewStore}
use Rattle.host_stores.proofs.new_stores.new_store.Goals as goal

pub returns-in-Some : goal.returns-in-Some
returns-in-Some g c = subst IsNewStore (sym c.in-Some.ensures.bytes) (c.in_ok-files.ensures c.in-Some.ensures.clean)
