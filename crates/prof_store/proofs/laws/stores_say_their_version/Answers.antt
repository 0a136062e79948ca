use Rattle.prof_store.proofs.Opening.{store_says}
use Rattle.prof_store.proofs.laws.stores_say_their_version.Goals as goal

pub returns : goal.returns
returns c = store_says
