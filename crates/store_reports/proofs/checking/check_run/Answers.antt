use Rattle.run_stores.proofs.Calls.{asked_reads}
use Rattle.histories.proofs.Questions.{if_ok_so}
use Rattle.store_reports.proofs.checking.check_run.Goals as goal

pub returns-clause-told : goal.returns-clause-told
returns-clause-told g c clean t represents =
    let early = (c.push_sums.ensures.asks clean).stays.was_faithful in
    let mid = asked_reads g.S.StoreState t _ _ (c.in_ok-head.ensures.asks early) represents in
    if_ok_so c.push_sums.result (λ _ told named. told named (c.in_ok-head.ensures.told early t represents)) (c.push_sums.ensures.told clean t mid)
