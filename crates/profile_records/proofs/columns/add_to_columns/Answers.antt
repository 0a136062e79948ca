use Rattle.std.proofs.Common.{arith}
use Rattle.profile_records.proofs.ColumnsLemmas.{added-by_column}
use Rattle.profile_records.proofs.columns.add_to_columns.Goals as goal

pub returns : goal.returns
returns c =
    added-by_column c.args.sums.now c.args.costs.now c.loop-k.sums c.loop-k.k c.requires.wide (omega arith) (omega arith)
    c.loop-k.invariant.added c.loop-k.invariant.kept
