use Rattle.run_stores.proofs.Calls.{asked_reads_yet}
use Rattle.store_calls.specs.KeptCalls.{kept_of, spot_asked, taken_named}
use Rattle.store_calls.proofs.FunctionLemmas.{text_known, text_unknown}
use Rattle.store_calls.proofs.calling.text_if_known.Goals as goal

pub returns-then-not-branch-clause-told : goal.returns-then-not-branch-clause-told
returns-then-not-branch-clause-told g c clean t represents is =
    text_unknown t c.args.runs.now c.args.event.now (taken_named t.names (spot_asked c.args.asked.now) (kept_of c.args.calls.now)) _
    (c.in_ok-is_known.ensures.told clean t represents is) c.if-not-branch.true

pub returns-clause-told : goal.returns-clause-told
returns-clause-told g c clean t represents is =
    let early = (c.in_ok-text.ensures.asks clean).stays.was_faithful in
    let mid = asked_reads_yet g.S.StoreState t _ _ (c.in_ok-is_known.ensures.asks early) represents in
    text_known t c.args.runs.now c.args.event.now (taken_named t.names (spot_asked c.args.asked.now) (kept_of c.args.calls.now)) _ _
    (c.in_ok-is_known.ensures.told early t represents is) c.if-not-branch.false (c.in_ok-text.ensures.told clean t mid)
