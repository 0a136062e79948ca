use Rattle.std.proofs.Common.{◌≡◌, ℕ, List, fold, length, refl, ap, subst, ◌∙◌, rules}
use Rattle.std.specs.List.{AllByRecursion}
use Rattle.run_stores.proofs.Calls.{asked_reads}
use Rattle.plain_tables.specs.RunRows.{cells_in}
use Rattle.report_texts.specs.Csv.{with_cell_in}
use Rattle.run_stores.specs.Walks.{IsOfAnEvent}
use Rattle.selected_runs.proofs.Walks.{cells_come}
use Rattle.run_stores.specs.Book.{cells_held}
use Rattle.store_reports.proofs.CsvLemmas.{cells_taken}
use Rattle.store_reports.proofs.csv_writing.add_run.Goals as goal

pub returns-in-Ok-each_named_cell-clause-told : goal.returns-in-Ok-each_named_cell-clause-told
returns-in-Ok-each_named_cell-clause-told g c clean t represents named =
    let number = c.args.number in
    let head = c.in-Ok.head in
    let early = (c.in-Ok-each_named_cell.ensures.asks clean).stays.was_faithful in
    let mid = asked_reads g.S.StoreState t _ _ (c.in-Ok.ensures.asks early) represents in
    let cells = cells_held number t in
    let same : c.as_slice-events.result.now ≡ head.events = search rules in (
      record { events = head.events; cells = cells },
      record { head = head; head_is = c.in-Ok.ensures.told early t represents; events_are = refl; cells_are = refl },
      ap (λ m. m.1) (cells_come _ _ _ _ number t _ (c.in-Ok-each_named_cell.ensures.told clean t mid) named ∙ cells_taken c.as_slice-events.result.now c.args.sums cells) ∙ ap (λ events. fold (with_cell_in events) c.args.sums cells) same,
    )

pub returns-in-Ok-each_named_cell-clause-of_events : goal.returns-in-Ok-each_named_cell-clause-of_events
returns-in-Ok-each_named_cell-clause-of_events g c clean t represents =
    let head = c.in-Ok.head in
    let early = (c.in-Ok-each_named_cell.ensures.asks clean).stays.was_faithful in
    let mid = asked_reads g.S.StoreState t _ _ (c.in-Ok.ensures.asks early) represents in
    let same : c.as_slice-events.result.now ≡ head.events = search rules in
    (head, c.in-Ok.ensures.told early t represents, subst (λ (events : List (List ℕ)). AllByRecursion (IsOfAnEvent (length events)) (cells_in c.args.number t)) same (c.in-Ok-each_named_cell.ensures.told clean t mid).of_events)
