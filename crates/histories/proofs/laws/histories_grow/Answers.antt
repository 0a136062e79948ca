use Rattle.histories.proofs.StepsTo.{history_more, history_all, legal_append}
use Rattle.histories.proofs.laws.histories_grow.Goals as goal

pub returns-clause-one : goal.returns-clause-one
returns-clause-one c = λ limits h step. history_more limits h step.command step.answer

pub returns-clause-all : goal.returns-clause-all
returns-clause-all c = history_all

pub returns-clause-append : goal.returns-clause-append
returns-clause-append c = legal_append
