use Rattle.std.proofs.Common.{Some, None, refl}
use Rattle.run_stores.proofs.Calls.{asked_reads}
use Rattle.histories.proofs.Questions.{if_ok_so}
use Rattle.store_reports.proofs.comparing.baseline_run.Goals as goal

pub returns-in-Some-clause-told : goal.returns-in-Some-clause-told
returns-in-Some-clause-told g c clean t represents =
    let early = (c.one_run.ensures.asks clean).stays.was_faithful in
    let base = rw c.in-Some.is at (c.in_ok-number.ensures.told early t represents) in
    let mid = asked_reads g.S.StoreState t _ _ (c.in_ok-number.ensures.asks early) represents in
    if_ok_so c.one_run.result (λ found told. record {
      text = c.name_text.result.now;
      sought = record { named = c.name_text.ensures.named; other = c.name_text.ensures.other };
      baseline = Some c.in-Some.number;
      based = (base, told);
    }) (c.one_run.ensures.told clean t mid)

pub returns-in-None-clause-told : goal.returns-in-None-clause-told
returns-in-None-clause-told g c clean t represents = record {
  text = c.name_text.result.now;
  sought = record { named = c.name_text.ensures.named; other = c.name_text.ensures.other };
  baseline = None;
  based = (rw c.in-None.is at (c.in_ok-number.ensures.told clean t represents), refl);
}
