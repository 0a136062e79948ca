use Rattle.cost_reports.proofs.AddedLemmas.{calls_come_to, inclusive_come_to}
use Rattle.cost_reports.proofs.laws.added_rows_sum_to_the_reports.Goals as goal

pub returns-clause-calls : goal.returns-clause-calls
returns-clause-calls c = calls_come_to

pub returns-clause-inclusive : goal.returns-clause-inclusive
returns-clause-inclusive c = inclusive_come_to
