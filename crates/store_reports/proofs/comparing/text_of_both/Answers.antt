use Rattle.histories.proofs.Questions.{if_ok_so}
use Rattle.store_reports.proofs.comparing.text_of_both.Goals as goal

pub returns-clause-told : goal.returns-clause-told
returns-clause-told g c clean t represents =
    if_ok_so c.text_of_numbers.result (λ text told. told t.names (c.in_ok-names.ensures.told clean t represents).same) c.text_of_numbers.ensures
