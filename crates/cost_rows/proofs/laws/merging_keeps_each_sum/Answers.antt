use Rattle.cost_rows.proofs.MergeLemmas.{sum-merge_all, sorted-merge_all, keys-merge_all}
use Rattle.cost_rows.proofs.laws.merging_keeps_each_sum.Goals as goal

pub returns-clause-sums : goal.returns-clause-sums
returns-clause-sums g c = λ exact add measure adds passes entries amounts. sum-merge_all exact add passes measure adds entries amounts

pub returns-clause-order : goal.returns-clause-order
returns-clause-order g c = λ add entries amounts sorted. sorted-merge_all g.met.K.Ord.total add entries amounts sorted

pub returns-clause-keys : goal.returns-clause-keys
returns-clause-keys g c = λ exact add passes entries amounts. keys-merge_all exact add passes entries amounts
