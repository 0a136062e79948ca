use Rattle.std.proofs.Common.{◌+◌, arith}
use Rattle.selected_runs.specs.Ranked.{sums_of}
use Rattle.selected_runs.proofs.EnoughLemmas.{no_row, total_next, total_within}
use Rattle.selected_runs.proofs.ranked.count_reaching.Goals as goal

pub overflow_mul-before : goal.overflow_mul-before
overflow_mul-before c = let most = total_within c.loop-k.k (sums_of c.args.rows.now) in omega (arith, most)

pub overflow_add-before : goal.overflow_add-before
overflow_add-before c =
    let next = total_next c.args.rows.now c.loop-k.k no_row c.loop-k-test.true in
    let most = total_within (c.loop-k.k + 1) (sums_of c.args.rows.now) in
    omega (arith, next, most)

pub loop-k-preserved : goal.loop-k-preserved
loop-k-preserved c = let next = total_next c.args.rows.now c.loop-k.k no_row c.loop-k-test.true in omega (arith, next)
