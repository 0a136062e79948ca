use Rattle.std.proofs.Common.{◌≡◌, Ok, Err, Some, None, refl, subst, rules}
use Rattle.requests.specs.Plain.{plain_selection}
use Rattle.report_texts.specs.Functions.{function_spot}
use Rattle.store_calls.specs.FunctionCalls.{IsCallsText}
use Rattle.histories.proofs.Questions.{asked_once}
use Rattle.selected_runs.proofs.AskLemmas.{asked_twice}
use Rattle.store_calls.proofs.FunctionLemmas.{calls_are_expected}
use Rattle.store_calls.proofs.calling.calls_answer.Goals as goal

pub returns-in-Err : goal.returns-in-Err
returns-in-Err g c clean =
    let selection = plain_selection c.args.selection.now in
    asked_once g.S.StoreState _ _ (calls_are_expected selection c.args.side c.args.event.now c.args.object.now c.args.function.now) _ _ _ refl (c.in_ok-runs.ensures.asks clean) (λ t represents. record {
      found = Err c.in-Err.refusal;
      is_found = rw c.in-Err.is at (c.in_ok-runs.ensures.told clean t represents);
      answer_is = refl;
    })

pub returns-in-Some : goal.returns-in-Some
returns-in-Some g c clean =
    let selection = plain_selection c.args.selection.now in
    let side = c.args.side in
    let runs : c.as_slice-runs.result.now ≡ c.in-Ok.runs = search rules in
    asked_twice g.S.StoreState _ _ (calls_are_expected selection side c.args.event.now c.args.object.now c.args.function.now) _ _ _ _ refl c.in_ok-runs.ensures.asks (c.in_ok-text.ensures.asks clean) (λ t represents early mid.
    let told = rw c.in-Some.is at (c.in_ok-text.ensures.told clean t mid) in
    record {
      found = Ok c.in-Ok.runs;
      is_found = rw c.in-Ok.is at (c.in_ok-runs.ensures.told early t represents);
      answer_is = (
        Some c.in-Some.text,
        subst (λ rs. IsCallsText t rs side (function_spot c.args.object.now c.args.function.now) c.args.event.now (Some c.in-Some.text)) runs told,
        refl,
      );
    })

pub returns : goal.returns
returns g c clean =
    let selection = plain_selection c.args.selection.now in
    let side = c.args.side in
    let runs : c.as_slice-runs.result.now ≡ c.in-Ok.runs = search rules in
    asked_twice g.S.StoreState _ _ (calls_are_expected selection side c.args.event.now c.args.object.now c.args.function.now) _ _ _ _ refl c.in_ok-runs.ensures.asks (c.in_ok-text.ensures.asks clean) (λ t represents early mid.
    let told = rw c.in-None.is at (c.in_ok-text.ensures.told clean t mid) in
    record {
      found = Ok c.in-Ok.runs;
      is_found = rw c.in-Ok.is at (c.in_ok-runs.ensures.told early t represents);
      answer_is = (
        None,
        subst (λ rs. IsCallsText t rs side (function_spot c.args.object.now c.args.function.now) c.args.event.now (None)) runs told,
        refl,
      );
    })
