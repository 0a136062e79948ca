use Rattle.std.proofs.Common.{◌≡◌, [], true, fold, Ok, Err, ap, refl, subst, rules}
use Rattle.requests.specs.Plain.{plain_selection}
use Rattle.run_stores.proofs.Calls.{asked_open_then, asked_reads_yet}
use Rattle.histories.specs.declared.answers.Answer.TheVariants.{Text}
use Rattle.store_reports.specs.Reported.{numbers_from}
use Rattle.histories.proofs.Questions.{asked_once}
use Rattle.selected_runs.proofs.AskLemmas.{asked_twice}
use Rattle.store_reports.proofs.ByLemmas.{reported_is_expected}
use Rattle.store_reports.proofs.reporting.by_answer.Goals as goal

pub returns-in-Err : goal.returns-in-Err
returns-in-Err g c clean =
    let selection = plain_selection c.args.selection.now in
    asked_once g.S.StoreState _ _ (reported_is_expected selection c.args.key c.args.event.now c.args.cut) _ _ _ refl (c.in_ok-runs.ensures.asks clean) (λ t represents. record {
      found = Err c.in-Err.refusal;
      is_found = rw c.in-Err.is at (c.in_ok-runs.ensures.told clean t represents);
      answer_is = refl;
    })

pub returns : goal.returns
returns g c clean =
    let selection = plain_selection c.args.selection.now in
    let runs : c.as_slice.result.now ≡ c.in-Ok.runs = search rules in
    let shown = c.in_ok-text.ensures in
    let late = (shown.asks clean).stays.was_faithful in
    let summed = c.in_ok-sums.ensures in
    asked_twice g.S.StoreState _ _ (reported_is_expected selection c.args.key c.args.event.now c.args.cut) _ _ _ _ refl c.in_ok-runs.ensures.asks
    (asked_open_then g.S.StoreState true _ _ _ (summed.asks late) (shown.asks clean)) (λ t represents early mid. record {
      found = Ok c.in-Ok.runs;
      is_found = rw c.in-Ok.is at (c.in_ok-runs.ensures.told early t represents);
      answer_is = ap Text (shown.told clean t (asked_reads_yet g.S.StoreState t _ _ (summed.asks late) mid) c.args.key c.in-Ok.runs
          (subst (λ rs. c.in_ok-sums.field-0 ≡ fold (numbers_from t) (record { key = c.args.key; sums = [] }) rs) runs (summed.told late t mid)));
    })
