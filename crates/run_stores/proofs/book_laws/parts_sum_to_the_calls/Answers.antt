use Rattle.run_stores.proofs.Parts.{counts_are, costs_are, calls_are, whole}
use Rattle.run_stores.proofs.book_laws.parts_sum_to_the_calls.Goals as goal

pub returns-clause-whole : goal.returns-clause-whole
returns-clause-whole c = whole

pub returns-clause-sums : goal.returns-clause-sums
returns-clause-sums c = λ rows. record { counts = λ passes. counts_are passes rows; costs = λ passes k. costs_are passes k rows; called = λ passes. calls_are passes rows }
