use Rattle.std.proofs.Common.{◌≡◌, Ok, Err, refl, subst, rules}
use Rattle.requests.specs.Plain.{plain_selection}
use Rattle.histories.proofs.Questions.{asked_once}
use Rattle.selected_runs.proofs.AskLemmas.{asked_twice}
use Rattle.report_texts.specs.Csv.{csv_text}
use Rattle.store_reports.specs.CsvRuns.{IsCsvText}
use Rattle.store_reports.proofs.CsvLemmas.{csv_is_expected}
use Rattle.store_reports.proofs.csv_writing.csv_sums.Goals as goal

pub returns-in-Err : goal.returns-in-Err
returns-in-Err g c clean = asked_once g.S.StoreState _ _ (csv_is_expected (plain_selection c.args.selection.now)) _ _ _ refl (c.in_ok-numbers.ensures.asks clean) (λ t represents. record {
  found = Err c.in-Err.refusal;
  is_found = rw c.in-Err.is at (c.in_ok-numbers.ensures.told clean t represents);
  answer_is = refl;
})

pub returns : goal.returns
returns g c clean =
    let sums = c.in_ok-sums.sums in
    let numbers : c.as_slice.result.now ≡ c.in-Ok.numbers = search rules in
    asked_twice g.S.StoreState _ _ (csv_is_expected (plain_selection c.args.selection.now)) _ _ _ _ refl c.in_ok-numbers.ensures.asks (c.in_ok-sums.ensures.asks clean) (λ t represents early mid. record {
      found = Ok c.in-Ok.numbers;
      is_found = rw c.in-Ok.is at (c.in_ok-numbers.ensures.told early t represents);
      answer_is = (csv_text sums, subst (λ ns. IsCsvText t ns (csv_text sums)) numbers (sums, c.in_ok-sums.ensures.told clean t mid, refl), refl);
    })
