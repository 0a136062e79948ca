use Rattle.cost_reports.proofs.CallLemmas.{totals_are_all}
use Rattle.cost_reports.proofs.laws.callers_and_callees_sum_to_the_calls.Goals as goal

pub returns : goal.returns
returns c = totals_are_all
