use Rattle.std.proofs.Common.{subst}
use Rattle.run_stores.proofs.Calls.{asked_reads, asked_reads_yet}
use Rattle.histories.proofs.Questions.{if_ok_so}
use Rattle.store_calls.specs.FunctionCalls.{AreTakenFrom, IsCallsText}
use Rattle.store_calls.specs.KeptCalls.{IsAsked, kept_of, spot_asked, taken_named}
use Rattle.store_calls.proofs.FunctionLemmas.{calls_added, text_of_taken}
use Rattle.store_calls.proofs.KeptLemmas.{none_kept}
use Rattle.store_calls.proofs.calling.calls_text.Goals as goal

pub returns-clause-told : goal.returns-clause-told
returns-clause-told g c clean t represents =
    let runs = c.args.runs.now in
    let side = c.args.side in
    let event = c.args.event.now in
    let f = spot_asked c.in_ok-asked.asked in
    let all = taken_named t.names f (kept_of c.in_ok-all.all) in
    let later = (c.text_if_known.ensures.asks clean).stays.was_faithful in
    let early = (c.in_ok-all.ensures.asks later).stays.was_faithful in
    let is = c.in_ok-asked.ensures.told early t represents in
    let one = asked_reads g.S.StoreState t _ _ (c.in_ok-asked.ensures.asks early) represents in
    let two = asked_reads_yet g.S.StoreState t _ _ (c.in_ok-all.ensures.asks later) one in
    let none = none_kept t.names f side c.new.result c.new.ensures.side c.new.ensures.known c.new.ensures.rows in
    let from = subst (λ m. AreTakenFrom t runs m all) none (calls_added {P = IsAsked t.names c.in_ok-asked.asked} (λ k. taken_named t.names f (kept_of k)) t is runs _ _ (c.in_ok-all.ensures.told later t one)) in
    if_ok_so c.text_if_known.result (λ text told. subst (λ spot. IsCallsText t runs side spot event text) c.in_ok-asked.ensures.function
    (text_of_taken t runs side f event all text from (told is))) (c.text_if_known.ensures.told clean t two)
