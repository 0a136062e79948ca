use Rattle.run_stores.proofs.Calls.{asked_reads_yet}
use Rattle.selected_runs.specs.Named.{AreOf}
use Rattle.store_reports.proofs.ShownLemmas.{report_shown}
use Rattle.store_reports.proofs.MergeLemmas.{both_so}
use Rattle.store_reports.proofs.reporting.shown_text.Goals as goal

pub returns-clause-told : goal.returns-clause-told
returns-clause-told g c clean t represents =
    let late = (c.in_ok-names.ensures.asks clean).stays.was_faithful in
    let one = asked_reads_yet g.S.StoreState t _ _ (c.in_ok-shown.ensures.asks late) represents in
    let are : AreOf t.names (g.S.Names.NameTable.name_rows c.in_ok-names.names) = (c.in_ok-names.ensures.told clean t one).same in
    both_so c.text_of_sums.result c.text_of_sums.ensures.text c.text_of_sums.ensures.held (λ text told held key runs sums.
    report_shown t (g.S.StoreState.apart t _ represents) key c.args.event.now c.args.cut runs _ are text c.args.sums c.in_ok-shown.shown
    sums (c.in_ok-shown.ensures.told late t represents) held told)
