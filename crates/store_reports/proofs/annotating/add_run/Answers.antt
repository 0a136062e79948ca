use Rattle.std.proofs.Common.{map, fold, ap, ◌∙◌}
use Rattle.plain_tables.specs.RunRows.{cells_in}
use Rattle.run_stores.specs.Walks.{cell_numbers}
use Rattle.store_reports.specs.Annotated.{with_numbered}
use Rattle.store_reports.proofs.AnnotateLemmas.{lines_taken}
use Rattle.store_reports.proofs.annotating.add_run.Goals as goal

pub returns-clause-told : goal.returns-clause-told
returns-clause-told g c clean t represents =
    let cells = map cell_numbers (cells_in c.args.run.now.number t) in
    ap (λ m. m.3) ((c.in_ok-all.ensures.told clean t represents).comes ∙ lines_taken c.args.number c.args.name.now c.event_counts.result.now c.args.sums cells)
    ∙ ap (λ counts. fold (with_numbered c.args.number c.args.name.now counts) c.args.sums cells) c.event_counts.ensures

pub returns-clause-of_events : goal.returns-clause-of_events
returns-clause-of_events g c clean t represents = (c.in_ok-all.ensures.told clean t represents).of_events
