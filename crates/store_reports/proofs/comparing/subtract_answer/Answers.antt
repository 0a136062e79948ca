use Rattle.std.proofs.Common.{◌≡◌, true, Ok, Err, option_map, refl, subst₂, rules}
use Rattle.requests.specs.Plain.{plain_selection}
use Rattle.run_stores.proofs.Calls.{asked_of_open, asked_reads}
use Rattle.store_reports.specs.Compared.{AnswersDifference}
use Rattle.histories.proofs.Questions.{asked_once, if_ok_so}
use Rattle.selected_runs.proofs.AskLemmas.{asked_twice}
use Rattle.store_reports.proofs.CompareLemmas.{subtracted_is_expected}
use Rattle.store_reports.proofs.comparing.subtract_answer.Goals as goal

pub returns-in-Err : goal.returns-in-Err
returns-in-Err g c clean =
    asked_once g.S.StoreState _ _ (subtracted_is_expected (plain_selection c.args.first.now) (option_map plain_selection c.args.second.now) c.args.key c.args.event.now) _ _ _ refl (c.in_ok-numbers.ensures.asks clean) (λ t represents. record {
      found = Err c.in-Err.refusal;
      is_found = rw c.in-Err.is at (c.in_ok-numbers.ensures.told clean t represents);
      answer_is = refl;
    })

pub returns-in-Err-2 : goal.returns-in-Err-2
returns-in-Err-2 g c clean =
    asked_twice g.S.StoreState _ _ (subtracted_is_expected (plain_selection c.args.first.now) (option_map plain_selection c.args.second.now) c.args.key c.args.event.now) _ _ _ _ refl c.in_ok-numbers.ensures.asks (c.in_ok-numbers-2.ensures.asks clean) (λ t represents early mid.
    record {
      found = Ok c.in-Ok.numbers;
      is_found = rw c.in-Ok.is at (c.in_ok-numbers.ensures.told early t represents);
      answer_is = record {
        found = Err c.in-Err-2.refusal;
        is_found = rw c.in-Err-2.is at (c.in_ok-numbers-2.ensures.told clean t mid);
        answer_is = refl;
      };
    })

pub returns : goal.returns
returns g c clean =
    let firsts = c.in_ok-numbers.ensures in
    let seconds = c.in_ok-numbers-2.ensures in
    let numbers : c.as_slice.result.now ≡ c.in-Ok.numbers = search rules in
    let others : c.as_slice-2.result.now ≡ c.in-Ok-2.numbers = search rules in
    asked_twice g.S.StoreState _ _ (subtracted_is_expected (plain_selection c.args.first.now) (option_map plain_selection c.args.second.now) c.args.key c.args.event.now) c.answer_difference.result _ _ _ c.answer_difference.ensures.still
    (λ later. let compared = seconds.asks later in asked_of_open g.S.StoreState true _ _ _ (firsts.asks compared.stays.was_faithful) compared) (c.answer_difference.ensures.asks clean) (λ t represents later two.
    let early = (seconds.asks later).stays.was_faithful in
    let one = asked_reads g.S.StoreState t _ _ (firsts.asks early) represents in
    if_ok_so c.answer_difference.result (λ answer told. record {
      found = Ok c.in-Ok.numbers;
      is_found = rw c.in-Ok.is at (firsts.told early t represents);
      answer_is = record {
        found = Ok c.in-Ok-2.numbers;
        is_found = rw c.in-Ok-2.is at (seconds.told later t one);
        answer_is = subst₂ (λ ns os. AnswersDifference t ns os c.args.key c.args.event.now answer) numbers others told;
      };
    }) (c.answer_difference.ensures.told clean t two))
