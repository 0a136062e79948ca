use Rattle.std.proofs.Common.{◌≡◌, Ok, Err, ap, refl, subst, rules}
use Rattle.requests.specs.Plain.{plain_selection}
use Rattle.histories.specs.declared.answers.Answer.TheVariants.{Text}
use Rattle.histories.proofs.Questions.{asked_once}
use Rattle.selected_runs.proofs.AskLemmas.{asked_twice}
use Rattle.store_reports.specs.FoldedRuns.{folded_over}
use Rattle.store_reports.proofs.FoldedLemmas.{folded_is_expected}
use Rattle.store_reports.proofs.folded_writing.folded_answer.Goals as goal

pub returns-in-Err : goal.returns-in-Err
returns-in-Err g c clean = asked_once g.S.StoreState _ _ (folded_is_expected (plain_selection c.args.selection.now)) _ _ _ refl (c.in_ok-numbers.ensures.asks clean) (λ t represents. record {
  found = Err c.in-Err.refusal;
  is_found = rw c.in-Err.is at (c.in_ok-numbers.ensures.told clean t represents);
  answer_is = refl;
})

pub returns : goal.returns
returns g c clean =
    let text = c.in_ok-text.text in
    let numbers : c.as_slice.result.now ≡ c.in-Ok.numbers = search rules in
    asked_twice g.S.StoreState _ _ (folded_is_expected (plain_selection c.args.selection.now)) _ _ _ _ refl c.in_ok-numbers.ensures.asks (c.in_ok-text.ensures.asks clean) (λ t represents early mid. record {
      found = Ok c.in-Ok.numbers;
      is_found = rw c.in-Ok.is at (c.in_ok-numbers.ensures.told early t represents);
      answer_is = ap Text (subst (λ ns. text ≡ folded_over t ns) numbers (c.in_ok-text.ensures.told clean t mid));
    })
