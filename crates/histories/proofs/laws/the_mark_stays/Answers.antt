use Rattle.histories.proofs.Marks.{marked_at_end, marked_at_start, marked_on}
use Rattle.histories.proofs.laws.the_mark_stays.Goals as goal

pub returns-clause-at_end : goal.returns-clause-at_end
returns-clause-at_end c = marked_at_end

pub returns-clause-at_start : goal.returns-clause-at_start
returns-clause-at_start c = marked_at_start

pub returns-clause-stays : goal.returns-clause-stays
returns-clause-stays c = marked_on
