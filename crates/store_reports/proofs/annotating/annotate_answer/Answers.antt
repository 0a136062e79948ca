use Rattle.std.proofs.Common.{◌≡◌, Ok, Err, Some, None, ap, refl, subst, rules}
use Rattle.requests.specs.Plain.{plain_selection}
use Rattle.histories.specs.FromTables.{text_or_no_name}
use Rattle.histories.proofs.Questions.{asked_once}
use Rattle.selected_runs.proofs.AskLemmas.{asked_twice}
use Rattle.store_reports.specs.Annotated.{annotated_over}
use Rattle.store_reports.proofs.AnnotateLemmas.{annotation_is_expected}
use Rattle.store_reports.proofs.annotating.annotate_answer.Goals as goal

pub returns-in-Err : goal.returns-in-Err
returns-in-Err g c clean =
    let selection = plain_selection c.args.selection.now in
    asked_once g.S.StoreState _ _ (annotation_is_expected selection c.args.event.now c.args.name.now c.args.source.now) _ _ _ refl (c.in_ok-runs.ensures.asks clean) (λ t represents. record {
      found = Err c.in-Err.refusal;
      is_found = rw c.in-Err.is at (c.in_ok-runs.ensures.told clean t represents);
      answer_is = refl;
    })

pub returns-in-Some : goal.returns-in-Some
returns-in-Some g c clean =
    let selection = plain_selection c.args.selection.now in
    let runs : c.as_slice-runs.result.now ≡ c.in-Ok.runs = search rules in
    asked_twice g.S.StoreState _ _ (annotation_is_expected selection c.args.event.now c.args.name.now c.args.source.now) _ _ _ _ refl c.in_ok-runs.ensures.asks (c.in_ok-text.ensures.asks clean) (λ t represents early mid.
    let told = rw c.in-Some.is at (c.in_ok-text.ensures.told clean t mid) in
    record {
      found = Ok c.in-Ok.runs;
      is_found = rw c.in-Ok.is at (c.in_ok-runs.ensures.told early t represents);
      answer_is = ap text_or_no_name (subst (λ rs. Some c.in-Some.text ≡ annotated_over t rs c.args.event.now c.args.name.now c.args.source.now) runs told);
    })

pub returns : goal.returns
returns g c clean =
    let selection = plain_selection c.args.selection.now in
    let runs : c.as_slice-runs.result.now ≡ c.in-Ok.runs = search rules in
    asked_twice g.S.StoreState _ _ (annotation_is_expected selection c.args.event.now c.args.name.now c.args.source.now) _ _ _ _ refl c.in_ok-runs.ensures.asks (c.in_ok-text.ensures.asks clean) (λ t represents early mid.
    let told = rw c.in-None.is at (c.in_ok-text.ensures.told clean t mid) in
    record {
      found = Ok c.in-Ok.runs;
      is_found = rw c.in-Ok.is at (c.in_ok-runs.ensures.told early t represents);
      answer_is = ap text_or_no_name (subst (λ rs. None ≡ annotated_over t rs c.args.event.now c.args.name.now c.args.source.now) runs told);
    })
