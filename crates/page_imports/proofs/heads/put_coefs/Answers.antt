use Rattle.std.proofs.Common.{map, refl}
use Rattle.line_fills.proofs.Held.{coefs_filled}
use Rattle.prof_store.specs.Lines.{coef_row}
use Rattle.prof_store.specs.Schema.{schema_two, coef_at}
use Rattle.prof_store.specs.Tables.{coef_columns}
use Rattle.page_imports.proofs.Put.{lines_put}
use Rattle.page_imports.proofs.Mapped.{mapped_twice}
use Rattle.page_places.proofs.Showing.{table_at}
use Rattle.page_imports.proofs.heads.put_coefs.Goals as goal

pub returns-clause-done : goal.returns-clause-done
returns-clause-done g c run clean = λ wanted known was t shows are can.
    let file = c.args.file.now in
    let lines = c.args.lines.now in
    let now = shows.next in
    let at = table_at file shows.writes shows.holds 4 coef_at refl _ (c.place.ensures known coef_at (c.coef_table.ensures known are)) in
    let columns = mapped_twice coef_columns coef_row lines in
    lines_put file c.fill.new.file shows coef_at refl c.fill.result columns (λ next. coefs_filled t now next shows.holds run can.held (map coef_row lines) can.of_run) (λ put. put)
    (c.fill.ensures.done clean schema_two wanted known was now coef_at at)

pub returns-clause-leaves : goal.returns-clause-leaves
returns-clause-leaves g c = c.fill.ensures.leaves
