use Rattle.std.proofs.Common.{map, refl}
use Rattle.line_fills.proofs.Held.{derived_filled}
use Rattle.prof_store.specs.Lines.{derived_row}
use Rattle.prof_store.specs.Schema.{schema_two, derived_at}
use Rattle.prof_store.specs.Tables.{derived_columns}
use Rattle.page_imports.proofs.Put.{lines_put}
use Rattle.page_imports.proofs.Mapped.{mapped_twice}
use Rattle.page_places.proofs.Showing.{table_at}
use Rattle.page_imports.proofs.heads.put_derived.Goals as goal

pub returns-clause-done : goal.returns-clause-done
returns-clause-done g c run clean = λ wanted known was t shows are can.
    let file = c.args.file.now in
    let lines = c.args.lines.now in
    let now = shows.next in
    let at = table_at file shows.writes shows.holds 3 derived_at refl _ (c.place.ensures known derived_at (c.derived_table.ensures known are)) in
    let columns = mapped_twice derived_columns derived_row lines in
    lines_put file c.fill.new.file shows derived_at refl c.fill.result columns (λ next. derived_filled t now next shows.holds run can.held (map derived_row lines) can.of_run) (λ put. put)
    (c.fill.ensures.done clean schema_two wanted known was now derived_at at)

pub returns-clause-leaves : goal.returns-clause-leaves
returns-clause-leaves g c = c.fill.ensures.leaves
