use Rattle.std.proofs.Common.{◌<◌, true, length, subst, arith}
use Rattle.run_stores.proofs.Calls.{asked_open_then, asked_reads_yet}
use Rattle.selected_runs.proofs.AddedLemmas.{added_so_far}
use Rattle.selected_runs.proofs.adding.fold_runs.Goals as goal

pub loop-run-preserved : goal.loop-run-preserved
loop-run-preserved g c =
    let i = c.loop-run.invariant in
    let runs = c.args.runs.now in
    let at = c.loop-run.run-index in
    let low : at < length runs = omega arith in
    let one = c.in_ok-sums.ensures in
    record {
      asked = λ clean. let asks = one.asks clean in asked_open_then g.S.StoreState true _ _ _ (i.asked asks.stays.was_faithful) asks;
      told = λ clean t represents.
          let early = (one.asks clean).stays.was_faithful in
          let mid = asked_reads_yet g.S.StoreState t _ _ (i.asked early) represents in
          let adds = g.A.RunFold.Step c.args.adder.now t in
          added_so_far adds runs at c.run-item.result c.args.sums c.loop-run.sums c.in_ok-sums.sums low (i.told early t represents)
          (subst (λ r. adds r c.loop-run.sums c.in_ok-sums.sums) c.run-item.is (one.told clean t mid));
    }
