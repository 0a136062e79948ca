use Rattle.std.proofs.Common.{arith}
use Rattle.profile_records.proofs.ColumnsLemmas.{added-by_column}
use Rattle.cost_rows.proofs.stretches.raise_each.Goals as goal

pub returns-clause-sums : goal.returns-clause-sums
returns-clause-sums c =
    added-by_column c.args.sums.now c.args.costs.now c.loop-k.sums c.loop-k.k c.requires.wide (omega arith) (omega arith)
    c.loop-k.invariant.added c.loop-k.invariant.kept
