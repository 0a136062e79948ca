use Rattle.callgrind_reader.proofs.ExactLemmas.{exact-line_fault, exact-fault, exact-records}
use Rattle.callgrind_reader.proofs.laws.looking_back_is_exact.Goals as goal

pub returns-clause-line_fault : goal.returns-clause-line_fault
returns-clause-line_fault c = exact-line_fault

pub returns-clause-fault : goal.returns-clause-fault
returns-clause-fault c = exact-fault

pub returns-clause-records : goal.returns-clause-records
returns-clause-records c = exact-records
