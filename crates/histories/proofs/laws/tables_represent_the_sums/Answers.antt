use Rattle.histories.proofs.Excesses.{tells_excess}
use Rattle.histories.proofs.Totals.{tells_self, tells_calls, tells_count}
use Rattle.histories.proofs.laws.tables_represent_the_sums.Goals as goal

pub returns-clause-sums : goal.returns-clause-sums
returns-clause-sums c = λ h t sound represent. record {
  self_cost = tells_self h t sound represent;
  call_cost = tells_calls h t sound represent;
  excess = λ kind bytes held_totals file_totals. tells_excess h t kind bytes held_totals file_totals sound represent;
}

pub returns-clause-call_count : goal.returns-clause-call_count
returns-clause-call_count c = tells_count
