use Rattle.std.proofs.Common.{map, refl, ap, ◌∙◌}
use Rattle.std.proofs.lemmas.Result.{IfOk-from_err, err_from_is_err_and}
use Rattle.cost_rows.specs.Rows.{content_of}
use Rattle.line_fills.proofs.Held.{calls_filled}
use Rattle.run_stores.specs.Files.{call_rows}
use Rattle.run_stores.proofs.Rows.{calls_of_run}
use Rattle.prof_store.specs.Schema.{schema_two, arc_at}
use Rattle.prof_store.specs.Tables.{arc_columns}
use Rattle.page_imports.specs.Lines.{call_line}
use Rattle.page_imports.specs.Causes.{CanPutCalls}
use Rattle.page_imports.proofs.Failing.{refuses_fails}
use Rattle.page_imports.proofs.Put.{lines_put}
use Rattle.page_imports.proofs.Mapped.{mapped_twice}
use Rattle.page_places.proofs.Showing.{table_at}
use Rattle.sqlite_pool.specs.StoredLaws.{Keeps-refl}
use Rattle.page_imports.proofs.rows.put_calls.Goals as goal

pub returns-clause-done : goal.returns-clause-done
returns-clause-done g c clean = λ wanted known was t shows are can.
    let file = c.args.file.now in
    let run = c.args.run in
    let lines = c.in_ok-lines.lines.items in
    let news = call_rows run c.args.numbers.now (content_of c.args.rows.now).calls in
    let now = shows.next in
    let at = table_at file shows.writes shows.holds 6 arc_at refl _ (c.place.ensures known arc_at (c.call_table.ensures known are)) in
    let columns = ap (map (λ line. arc_columns (call_line line))) c.deref.ensures.value ∙ mapped_twice arc_columns call_line lines ∙ ap (map arc_columns) c.in_ok-lines.ensures.value in
    lines_put file c.fill.new.file shows arc_at refl c.fill.result columns (λ next. calls_filled t now next shows.holds run can.held news (record { of_run = calls_of_run run c.args.numbers.now (content_of c.args.rows.now).calls; none = can.none })) (λ (can : CanPutCalls run c.args.numbers.now (content_of c.args.rows.now).calls now). can.put)
    (c.fill.ensures.done clean schema_two wanted known was now arc_at at)

pub returns-in_err-lines-clause-done : goal.returns-in_err-lines-clause-done
returns-in_err-lines-clause-done g c clean = λ wanted known was t shows are can.
    let run = c.args.run in
    let file = c.args.file.now in
    let p = err_from_is_err_and c.from_residual.result c.from_residual.ensures.1 in
    rw (p.1, p.2) (refuses_fails file file _ (λ (can : CanPutCalls run c.args.numbers.now (content_of c.args.rows.now).calls shows.next). can.fit) c.in_err-lines.ensures.refused)

pub returns-in_err-lines-clause-leaves : goal.returns-in_err-lines-clause-leaves
returns-in_err-lines-clause-leaves g c = record { usable = IfOk-from_err c.from_residual.result _ c.from_residual.ensures.0; keeps = Keeps-refl _ }

pub returns-clause-leaves : goal.returns-clause-leaves
returns-clause-leaves g c = c.fill.ensures.leaves
