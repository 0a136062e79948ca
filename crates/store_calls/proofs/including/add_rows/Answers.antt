use Rattle.profile_records.specs.declared.kinds.Kind.TheVariants.{Callgrind, Folded}
use Rattle.run_stores.proofs.Calls.{asked_reads}
use Rattle.histories.proofs.Questions.{if_ok_so}
use Rattle.store_calls.proofs.InclusiveLemmas.{kind_added}
use Rattle.store_calls.proofs.including.add_rows.Goals as goal

pub returns-in-Ok-Callgrind-clause-told : goal.returns-in-Ok-Callgrind-clause-told
returns-in-Ok-Callgrind-clause-told g c clean t represents =
    let early = (c.add_callgrind.ensures.asks clean).stays.was_faithful in
    let mid = asked_reads g.S.StoreState t _ _ (c.in-Ok-Callgrind.ensures.asks early) represents in
    if_ok_so c.add_callgrind.result (λ all told. kind_added t c.args.run.now.number c.args.counts.now _ Callgrind _ _ (c.in-Ok-Callgrind.ensures.told early t represents) c.in-Ok-Callgrind.field-0-is told)
    (c.add_callgrind.ensures.told clean t mid)

pub returns-in-Ok-Folded-clause-told : goal.returns-in-Ok-Folded-clause-told
returns-in-Ok-Folded-clause-told g c clean t represents =
    let early = (c.add_folded.ensures.asks clean).stays.was_faithful in
    let mid = asked_reads g.S.StoreState t _ _ (c.in-Ok-Folded.ensures.asks early) represents in
    if_ok_so c.add_folded.result (λ all told. kind_added t c.args.run.now.number c.args.counts.now _ Folded _ _ (c.in-Ok-Folded.ensures.told early t represents) c.in-Ok-Folded.field-0-is told)
    (c.add_folded.ensures.told clean t mid)
