use Rattle.std.proofs.Common.{map, refl, ap, ◌∙◌}
use Rattle.std.proofs.lemmas.Result.{IfOk-from_err, err_from_is_err_and}
use Rattle.cost_rows.specs.Rows.{content_of}
use Rattle.line_fills.proofs.Held.{cells_filled}
use Rattle.run_stores.specs.Files.{cell_rows}
use Rattle.run_stores.proofs.Rows.{cells_of_run}
use Rattle.prof_store.specs.Schema.{schema_two, thread_cell_at}
use Rattle.prof_store.specs.Tables.{cell_columns}
use Rattle.page_imports.specs.Lines.{cell_line}
use Rattle.page_imports.specs.Causes.{CanPutCells}
use Rattle.page_imports.proofs.Failing.{refuses_fails}
use Rattle.page_imports.proofs.Put.{lines_put}
use Rattle.page_imports.proofs.Mapped.{mapped_twice}
use Rattle.page_places.proofs.Showing.{table_at}
use Rattle.sqlite_pool.specs.StoredLaws.{Keeps-refl}
use Rattle.page_imports.proofs.rows.put_cells.Goals as goal

pub returns-clause-done : goal.returns-clause-done
returns-clause-done g c clean = λ wanted known was t shows are can.
    let file = c.args.file.now in
    let run = c.args.run in
    let lines = c.in_ok-lines.lines.items in
    let news = cell_rows run c.args.numbers.now (content_of c.args.rows.now).cells in
    let now = shows.next in
    let at = table_at file shows.writes shows.holds 10 thread_cell_at refl _ (c.place.ensures known thread_cell_at (c.cell_table.ensures known are)) in
    let columns = ap (map (λ line. cell_columns (cell_line line))) c.deref.ensures.value ∙ mapped_twice cell_columns cell_line lines ∙ ap (map cell_columns) c.in_ok-lines.ensures.value in
    lines_put file c.fill.new.file shows thread_cell_at refl c.fill.result columns (λ next. cells_filled t now next shows.holds run can.held news (record { of_run = cells_of_run run c.args.numbers.now (content_of c.args.rows.now).cells; none = can.none })) (λ (can : CanPutCells run c.args.numbers.now (content_of c.args.rows.now).cells now). can.put)
    (c.fill.ensures.done clean schema_two wanted known was now thread_cell_at at)

pub returns-in_err-lines-clause-done : goal.returns-in_err-lines-clause-done
returns-in_err-lines-clause-done g c clean = λ wanted known was t shows are can.
    let run = c.args.run in
    let file = c.args.file.now in
    let p = err_from_is_err_and c.from_residual.result c.from_residual.ensures.1 in
    rw (p.1, p.2) (refuses_fails file file _ (λ (can : CanPutCells run c.args.numbers.now (content_of c.args.rows.now).cells shows.next). can.fit) c.in_err-lines.ensures.refused)

pub returns-in_err-lines-clause-leaves : goal.returns-in_err-lines-clause-leaves
returns-in_err-lines-clause-leaves g c = record { usable = IfOk-from_err c.from_residual.result _ c.from_residual.ensures.0; keeps = Keeps-refl _ }

pub returns-clause-leaves : goal.returns-clause-leaves
returns-clause-leaves g c = c.fill.ensures.leaves
