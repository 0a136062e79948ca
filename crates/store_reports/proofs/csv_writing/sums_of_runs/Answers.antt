use Rattle.std.proofs.Common.{fold, ap, ◌∙◌}
use Rattle.report_texts.specs.Csv.{with_cells}
use Rattle.run_stores.proofs.Calls.{asked_reads}
use Rattle.histories.proofs.Questions.{if_ok_so}
use Rattle.store_reports.proofs.CsvLemmas.{cells_added}
use Rattle.store_reports.proofs.csv_writing.sums_of_runs.Goals as goal

pub returns-clause-told : goal.returns-clause-told
returns-clause-told g c clean t represents =
    let early = (c.fold_runs.ensures.asks clean).stays.was_faithful in
    let mid = asked_reads g.S.StoreState t _ _ (c.in_ok-names.ensures.asks early) represents in
    if_ok_so c.fold_runs.result
    (λ sums added. let all = cells_added t (c.in_ok-names.ensures.told early t represents) c.args.numbers.now _ _ added in (all.0, all.1, all.2 ∙ ap (λ before. fold with_cells before all.0) c.new.ensures))
    (c.fold_runs.ensures.told clean t mid)
