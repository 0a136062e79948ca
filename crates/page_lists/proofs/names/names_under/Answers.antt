use Rattle.std.proofs.Common.{◌∙◌}
use Rattle.std.proofs.lemmas.Result.{IfOk-from_err}
use Rattle.page_lists.proofs.NameColumns.{names_read}
use Rattle.page_lists.proofs.Among.{shown_rise}
use Rattle.page_lists.proofs.Refusing.{handed_on, names_rise}
use Rattle.page_lists.proofs.names.names_under.Goals as goal

pub returns-clause-read : goal.returns-clause-read
returns-clause-read g c faithful rows is names say = c.in_ok-of.ensures.taken ∙ names_read rows names say c.in_ok-names.names.items (c.in_ok-names.ensures.read faithful rows is)

pub returns-in_err-names-clause-read : goal.returns-in_err-names-clause-read
returns-in_err-names-clause-read g c = λ faithful rows is names say. IfOk-from_err c.from_residual.result _ c.from_residual.ensures.0

pub returns-in_err-names-clause-reads : goal.returns-in_err-names-clause-reads
returns-in_err-names-clause-reads g c = c.all_rows.ensures.reads

pub returns-in_err-of-clause-read : goal.returns-in_err-of-clause-read
returns-in_err-of-clause-read g c = λ faithful rows is names say. IfOk-from_err c.from_residual-in_err-of.result _ c.from_residual-in_err-of.ensures.0

pub returns-in_err-of-clause-reads : goal.returns-in_err-of-clause-reads
returns-in_err-of-clause-reads g c = c.all_rows.ensures.reads

pub returns-clause-reads : goal.returns-clause-reads
returns-clause-reads g c = c.all_rows.ensures.reads

pub returns-in_err-names-clause-serves : goal.returns-in_err-names-clause-serves
returns-in_err-names-clause-serves g c = λ faithful rows is all. handed_on c.from_residual.result _ _ c.from_residual.ensures.1 (c.in_err-names.ensures.serves faithful rows is all)

pub returns-in_err-of-clause-serves : goal.returns-in_err-of-clause-serves
returns-in_err-of-clause-serves g c = λ faithful rows is all.
    absurd (c.in_err-of.ensures.refused (names_rise rows c.in_ok-names.names.items (c.in_ok-names.ensures.read faithful rows is) (shown_rise _ _ rows is)))
