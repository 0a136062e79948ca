use Rattle.histories.specs.declared.answers.Answer.TheVariants.{Held, Text, Refused}
use Rattle.histories.proofs.Steps.{tell_nothing, tell_same}
use Rattle.histories.proofs.laws.tables_stay_through_what_changes_nothing.Goals as goal

pub returns-clause-new : goal.returns-clause-new
returns-clause-new c = tell_nothing

pub returns-clause-held : goal.returns-clause-held
returns-clause-held c = λ command n t limits h. tell_same limits h command (Held n) t tt

pub returns-clause-told : goal.returns-clause-told
returns-clause-told c = λ command text t limits h. tell_same limits h command (Text text) t tt

pub returns-clause-refused : goal.returns-clause-refused
returns-clause-refused c = λ command refusal t limits h. tell_same limits h command (Refused refusal) t tt
