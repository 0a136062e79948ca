use Rattle.std.proofs.Common.{Some, sym, ap, ◌∙◌}
use Rattle.histories.proofs.Questions.{if_ok_so}
use Rattle.store_calls.specs.InclusiveParts.{sums_in}
use Rattle.store_calls.proofs.InclusiveLemmas.{run_added}
use Rattle.store_calls.proofs.including.InclusiveOfRunsRunFold.add.Goals as goal

pub returns-in-Some-clause-told : goal.returns-in-Some-clause-told
returns-in-Some-clause-told g c clean t represents =
    let counts = c.in-Some.is ∙ ap Some (sym c.as_slice.ensures) in
    if_ok_so c.add_rows.result (λ all told. run_added t c.args.run.now c.as_slice.result.now (sums_in c.args.parts) (sums_in all) counts told) (c.add_rows.ensures.told clean t represents)
