use Rattle.cg_text.proofs.JoinedLemmas.{joined-lines_of, lines_of-joined}
use Rattle.cg_text.proofs.laws.lines_are_the_text.Goals as goal

pub returns-clause-joined : goal.returns-clause-joined
returns-clause-joined c = joined-lines_of

pub returns-clause-apart : goal.returns-clause-apart
returns-clause-apart c = lines_of-joined
