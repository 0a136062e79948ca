use Rattle.std.proofs.Common.{option_map, subst, sym}
use Rattle.requests.specs.Plain.{plain_selection}
use Rattle.store_reports.specs.Compared.{AreComparedIn}
use Rattle.histories.proofs.Questions.{if_ok_so}
use Rattle.store_reports.proofs.comparing.compared_runs.Goals as goal

pub returns-in-Some-clause-told : goal.returns-in-Some-clause-told
returns-in-Some-clause-told g c clean t represents =
    if_ok_so c.select_runs.result (λ found told. subst (λ second. AreComparedIn t (plain_selection c.args.first.now) (option_map plain_selection second) found) (sym c.in-Some.is) told) (c.select_runs.ensures.told clean t represents)
