use Rattle.histories.proofs.Steps.{tell_removed, tell_made, tell_dropped, tell_joined, tell_left, tell_based}
use Rattle.histories.proofs.laws.changes_are_commands.Goals as goal

pub returns-clause-removed : goal.returns-clause-removed
returns-clause-removed c = λ n t limits h. tell_removed limits h n t

pub returns-clause-made : goal.returns-clause-made
returns-clause-made c = λ name t limits h. tell_made limits h name t

pub returns-clause-dropped : goal.returns-clause-dropped
returns-clause-dropped c = λ name t limits h. tell_dropped limits h name t

pub returns-clause-joined : goal.returns-clause-joined
returns-clause-joined c = λ name n t limits h. tell_joined limits h name n t

pub returns-clause-left : goal.returns-clause-left
returns-clause-left c = λ name n t limits h. tell_left limits h name n t

pub returns-clause-based : goal.returns-clause-based
returns-clause-based c = λ name n t limits h. tell_based limits h name n t
