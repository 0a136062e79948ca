use Rattle.std.proofs.Common.{◌<◌, true, [], length, arith}
use Rattle.run_stores.proofs.Calls.{asked_open_then, asked_reads_yet}
use Rattle.store_reports.proofs.MergeLemmas.{one_run_more}
use Rattle.store_reports.proofs.merging.number_runs.Goals as goal

pub loop-run-preserved : goal.loop-run-preserved
loop-run-preserved g c =
    let i = c.loop-run.invariant in
    let runs = c.args.runs.now in
    let at = c.loop-run.run-index in
    let low : at < length runs = omega arith in
    let one = c.in_ok-sums.ensures in
    record {
      asked = λ clean. let asks = one.asks clean in asked_open_then g.S.StoreState true _ _ _ (i.asked asks.stays.was_faithful) asks;
      told = λ clean t represents.
          let early = (one.asks clean).stays.was_faithful in
          let mid = asked_reads_yet g.S.StoreState t _ _ (i.asked early) represents in
          one_run_more t (record { key = c.args.key; sums = [] }) c.loop-run.sums c.in_ok-sums.sums runs at c.run-item.result low c.run-item.is (i.told early t represents) (one.told clean t mid);
    }
