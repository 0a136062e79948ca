use Rattle.std.proofs.lemmas.Result.{IfOk-from_err}
use Rattle.page_runs.proofs.States.{asked_nothing, asked_usable, none_answered}
use Rattle.page_runs.proofs.store.PageRunsRunStore.head_of.Goals as goal

pub returns-in_err-if_usable-clause-told : goal.returns-in_err-if_usable-clause-told
returns-in_err-if_usable-clause-told g c = λ faithful t is. IfOk-from_err c.from_residual.result _ c.from_residual.ensures.0

pub returns-in_err-if_usable-clause-asks : goal.returns-in_err-if_usable-clause-asks
returns-in_err-if_usable-clause-asks g c = asked_nothing _ c.args.self.now (none_answered _ c.from_residual.ensures.0)

pub returns-clause-told : goal.returns-clause-told
returns-clause-told g c = λ faithful t is. c.head_of.ensures.told t is.shows.listed

pub returns-clause-asks : goal.returns-clause-asks
returns-clause-asks g c = asked_usable c.args.self.now c.in_ok-if_usable.ensures.usable _

pub returns-in_err-if_usable-clause-serves : goal.returns-in_err-if_usable-clause-serves
returns-in_err-if_usable-clause-serves g c = λ t is has. absurd (c.in_err-if_usable.ensures.shut is.usable)

pub returns-clause-serves : goal.returns-clause-serves
returns-clause-serves g c = λ t is has. c.head_of.ensures.serves t is.shows.listed has.head has.is has.numbers
