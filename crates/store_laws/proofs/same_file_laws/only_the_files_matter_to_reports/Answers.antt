use Rattle.std.proofs.Common.{◌≡◌, ℕ, List, ◌∷◌, Option, Some, refl, ap₂, sym, ◌∙◌}
use Rattle.report_texts.specs.Functions.{function_spot}
use Rattle.report_texts.specs.declared.call_sides.CallSide.{CallSide}
use Rattle.report_texts.specs.declared.call_sides.CallSide.TheVariants as sides
use Rattle.histories.specs.History.{Ask}
use Rattle.histories.specs.Legal.{expected_answer, expected_of_calls, first_or}
use Rattle.requests.specs.Plain.{calls_query}
use Rattle.histories.specs.declared.answers.Answer.{Answer}
use Rattle.histories.specs.declared.answers.Answer.TheVariants.{Text}
use Rattle.store_laws.proofs.Reports.{same_by, same_calls, same_difference, same_event, same_event_of_both, same_inclusive, same_name}
use Rattle.store_laws.proofs.same_file_laws.only_the_files_matter_to_reports.Goals as goal

abbrev answered : List (Option Answer) → List ℕ → Option Answer
answered refusals text = Some (first_or refusals (Text text))

pub returns-clause-by : goal.returns-clause-by
returns-clause-by c h k s r key event cut same limits =
    ap₂ answered (ap₂ ◌∷◌ (same.here ∙ sym same.there) (ap₂ ◌∷◌ (same_event event _ _ same.files) refl)) (same_by key event cut _ _ same.files)

pub returns-clause-inclusive : goal.returns-clause-inclusive
returns-clause-inclusive c h k s r event same limits =
    ap₂ answered (ap₂ ◌∷◌ (same.here ∙ sym same.there) (ap₂ ◌∷◌ (same_event event _ _ same.files) refl)) (same_inclusive event _ _ same.files)

pub returns-clause-calls : goal.returns-clause-calls
returns-clause-calls c h k s r side event object function same limits = of_either side
  where
    alike : (side : CallSide) → Some (expected_of_calls h s side event object function) ≡ Some (expected_of_calls k r side event object function)
    alike side =
        let f = function_spot object function in
        ap₂ answered (ap₂ ◌∷◌ (same.here ∙ sym same.there) (ap₂ ◌∷◌ (same_event event _ _ same.files) (ap₂ ◌∷◌ (same_name f _ _ same.files) refl))) (same_calls side f event _ _ same.files)

    of_either : (side : CallSide) → expected_answer limits h (Ask (calls_query side s event object function)) ≡ expected_answer limits k (Ask (calls_query side r event object function))
    of_either sides.Callers = alike sides.Callers
    of_either sides.Callees = alike sides.Callees

pub returns-clause-subtract : goal.returns-clause-subtract
returns-clause-subtract c h k s r t u key event same limits =
    let first = same.first in
    ap₂ answered
    (ap₂ ◌∷◌ (first.here ∙ sym first.there) (ap₂ ◌∷◌ (same.here ∙ sym same.there) (ap₂ ◌∷◌ (same_event_of_both event _ _ _ _ first.files same.files) refl)))
    (same_difference key event _ _ _ _ first.files same.files)
