use Rattle.std.proofs.Common.{subst}
use Rattle.run_stores.proofs.Calls.{asked_reads_yet}
use Rattle.histories.proofs.Questions.{if_ok_so}
use Rattle.store_calls.specs.InclusiveParts.{PartSums, sums_in}
use Rattle.store_calls.specs.InclusiveRuns.{AddsHeld, AreRowsOfRuns}
use Rattle.store_calls.proofs.InclusiveLemmas.{rows_added, text_told}
use Rattle.store_calls.proofs.including.inclusive_text.Goals as goal

pub returns-in-Ok-clause-told : goal.returns-in-Ok-clause-told
returns-in-Ok-clause-told g c clean t represents =
    let runs = c.args.runs.now in
    let event = c.args.event.now in
    let all : PartSums = sums_in c.in_ok-parts.parts in
    let early = (c.in-Ok.ensures.asks clean).stays.was_faithful in
    let mid = asked_reads_yet g.S.StoreState t _ _ (c.in_ok-parts.ensures.asks early) represents in
    let added : AddsHeld t (AreRowsOfRuns t runs) (sums_in c.new.result) all = rows_added t runs _ _ (c.in_ok-parts.ensures.told early t represents) in
    if_ok_so c.text_of_parts-text.result (λ text is.
    text_told t runs all (g.S.Names.NameTable.name_rows c.in-Ok.names) event text (g.S.StoreState.apart t _ represents) (subst (λ (s : PartSums). AddsHeld t (AreRowsOfRuns t runs) s all) c.new.ensures added)
    (c.in-Ok.ensures.told clean t mid) is)
    c.text_of_parts-text.ensures
