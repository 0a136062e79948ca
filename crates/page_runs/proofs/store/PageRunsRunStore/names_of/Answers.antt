use Rattle.std.proofs.Common.{refl}
use Rattle.std.proofs.lemmas.Result.{IfOk-from_err}
use Rattle.page_lists.proofs.Refusing.{handed_on}
use Rattle.page_runs.proofs.Serving.{names_failed, shut_failed}
use Rattle.page_runs.proofs.Taken.{large_shown}
use Rattle.page_runs.proofs.States.{asked, none_answered}
use Rattle.page_runs.proofs.store.PageRunsRunStore.names_of.Goals as goal

pub returns-clause-told : goal.returns-clause-told
returns-clause-told g c faithful t is =
    let shown = large_shown t c.args.self.now is.shows in
    c.in_ok-answer.ensures.read faithful shown.name_rows shown.names t.names shown.names_are

pub returns-clause-asks : goal.returns-clause-asks
returns-clause-asks g c = asked _ _ c.names_under.ensures.reads refl refl refl _ (λ _. c.in_ok-if_usable.ensures.usable)

pub returns-in_err-answer-clause-asks : goal.returns-in_err-answer-clause-asks
returns-in_err-answer-clause-asks g c = asked _ _ c.names_under.ensures.reads refl refl refl _ (none_answered _ c.from_residual.ensures.0)

pub returns-in_err-if_usable-clause-asks : goal.returns-in_err-if_usable-clause-asks
returns-in_err-if_usable-clause-asks g c = asked _ _ c.names_under.ensures.reads refl refl refl _ (none_answered _ c.from_residual-in_err-if_usable.ensures.0)

pub returns-in_err-answer-clause-told : goal.returns-in_err-answer-clause-told
returns-in_err-answer-clause-told g c = λ faithful t is. IfOk-from_err c.from_residual.result _ c.from_residual.ensures.0

pub returns-in_err-if_usable-clause-told : goal.returns-in_err-if_usable-clause-told
returns-in_err-if_usable-clause-told g c = λ faithful t is. IfOk-from_err c.from_residual-in_err-if_usable.result _ c.from_residual-in_err-if_usable.ensures.0

pub returns-in_err-answer-clause-serves : goal.returns-in_err-answer-clause-serves
returns-in_err-answer-clause-serves g c = λ faithful t was narrow.
    handed_on c.from_residual.result _ _ c.from_residual.ensures.1 (names_failed c.args.self.now (record c.args.self.now { file = c.names_under.new.file }) c.names_under.ensures.reads _ faithful t was narrow (c.in_err-answer.ensures.serves faithful))

pub returns-in_err-if_usable-clause-serves : goal.returns-in_err-if_usable-clause-serves
returns-in_err-if_usable-clause-serves g c = λ faithful t was narrow.
    handed_on c.from_residual-in_err-if_usable.result _ _ c.from_residual-in_err-if_usable.ensures.1 (shut_failed c.args.self.now (record c.args.self.now { file = c.names_under.new.file }) c.names_under.ensures.reads _ t was c.in_err-if_usable.ensures.shut)
