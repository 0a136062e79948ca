use Rattle.std.proofs.Common.{arith, ◌∙◌}
use Rattle.prof_library.proofs.Lemmas.{stack_added, stack_counted}
use Rattle.prof_library.proofs.inclusives.add_stacks.Goals as goal

pub add_functions-requires : goal.add_functions-requires
add_functions-requires c =
    let counted = stack_counted c.args.rows.now c.loop-row.row-index _ _ c.loop-row-test.true c.in_ok-functions.ensures in
    record { small = omega (arith, counted, c.loop-row.invariant.total, c.requires.small) }

pub loop-row-preserved : goal.loop-row-preserved
loop-row-preserved c =
    let rows = c.args.rows.now in
    let at = c.loop-row.row-index in
    let counted = stack_counted rows at _ _ c.loop-row-test.true c.in_ok-functions.ensures in
    record {
      sums = stack_added c.loop-row.sums c.add_functions.new.sums rows at _ _ c.loop-row-test.true c.in_ok-functions.ensures c.in_ok-add_functions.ensures.sums ∙ c.loop-row.invariant.sums;
      total = omega (arith, counted, c.loop-row.invariant.total, c.in_ok-add_functions.ensures.total);
    }
