use Rattle.std.proofs.Common.{map, refl}
use Rattle.line_fills.proofs.Held.{events_filled}
use Rattle.prof_store.specs.Lines.{event_row}
use Rattle.prof_store.specs.Schema.{schema_two, run_event_at}
use Rattle.prof_store.specs.Tables.{event_columns}
use Rattle.page_imports.proofs.Put.{lines_put}
use Rattle.page_imports.proofs.Mapped.{mapped_twice}
use Rattle.page_places.proofs.Showing.{table_at}
use Rattle.page_imports.proofs.heads.put_events.Goals as goal

pub returns-clause-done : goal.returns-clause-done
returns-clause-done g c run clean = λ wanted known was t shows are can.
    let file = c.args.file.now in
    let lines = c.args.lines.now in
    let now = shows.next in
    let at = table_at file shows.writes shows.holds 2 run_event_at refl _ (c.place.ensures known run_event_at (c.event_table.ensures known are)) in
    let columns = mapped_twice event_columns event_row lines in
    lines_put file c.fill.new.file shows run_event_at refl c.fill.result columns (λ next. events_filled t now next shows.holds run can.held (map event_row lines) can.of_run) (λ put. put)
    (c.fill.ensures.done clean schema_two wanted known was now run_event_at at)

pub returns-clause-leaves : goal.returns-clause-leaves
returns-clause-leaves g c = c.fill.ensures.leaves
