use Rattle.run_stores.proofs.Calls.{asked_reads}
use Rattle.store_calls.specs.declared.asked_functions.AskedFunction.{AskedFunction}
use Rattle.store_calls.proofs.KeptLemmas.{no_bytes, numbers_tell_functions}
use Rattle.store_calls.proofs.asked_functions.asked_function.Goals as goal

pub returns-clause-told : goal.returns-clause-told
returns-clause-told g c clean t represents =
    let early = (c.in_ok-number_of-2.ensures.asks clean).stays.was_faithful in
    let mid = asked_reads g.S.StoreState t _ _ (c.in_ok-number_of.ensures.asks early) represents in
    let asked : AskedFunction = record { object = c.args.object; name = c.args.name; numbers = record { object = c.in_ok-number_of.field-0; function = c.in_ok-number_of-2.field-0 } } in
    numbers_tell_functions t.names (g.S.StoreState.apart t _ represents) asked (no_bytes c.args.object.now c.type_inv.object) (no_bytes c.args.name.now c.type_inv.name)
    (c.in_ok-number_of.ensures.told early t represents) (c.in_ok-number_of-2.ensures.told clean t mid)
