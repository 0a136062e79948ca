use Rattle.std.proofs.Common.{◌≡◌, Ok, Err, refl, subst, rules}
use Rattle.requests.specs.Plain.{plain_selection}
use Rattle.store_calls.specs.InclusiveRuns.{IsInclusiveText}
use Rattle.histories.proofs.Questions.{asked_once}
use Rattle.selected_runs.proofs.AskLemmas.{asked_twice}
use Rattle.store_calls.proofs.InclusiveLemmas.{inclusive_is_expected}
use Rattle.store_calls.proofs.including.inclusive_answer.Goals as goal

pub returns-in-Err : goal.returns-in-Err
returns-in-Err g c clean =
    let selection = plain_selection c.args.selection.now in
    asked_once g.S.StoreState _ _ (inclusive_is_expected selection c.args.event.now) _ _ _ refl (c.in_ok-runs.ensures.asks clean) (λ t represents. record {
      found = Err c.in-Err.refusal;
      is_found = rw c.in-Err.is at (c.in_ok-runs.ensures.told clean t represents);
      answer_is = refl;
    })

pub returns : goal.returns
returns g c clean =
    let selection = plain_selection c.args.selection.now in
    let text = c.in_ok-text.text in
    let runs : c.as_slice.result.now ≡ c.in-Ok.runs = search rules in
    asked_twice g.S.StoreState _ _ (inclusive_is_expected selection c.args.event.now) _ _ _ _ refl c.in_ok-runs.ensures.asks (c.in_ok-text.ensures.asks clean) (λ t represents early mid. record {
      found = Ok c.in-Ok.runs;
      is_found = rw c.in-Ok.is at (c.in_ok-runs.ensures.told early t represents);
      answer_is = (text, subst (λ rs. IsInclusiveText t rs c.args.event.now text) runs (c.in_ok-text.ensures.told clean t mid), refl);
    })
