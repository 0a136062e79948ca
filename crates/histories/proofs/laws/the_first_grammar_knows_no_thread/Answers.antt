use Rattle.histories.proofs.Marks.{first_without, read_alike}
use Rattle.histories.proofs.laws.the_first_grammar_knows_no_thread.Goals as goal

pub returns-clause-none : goal.returns-clause-none
returns-clause-none c = first_without

pub returns-clause-alike : goal.returns-clause-alike
returns-clause-alike c = read_alike
