use Rattle.std.proofs.Common.{map, refl, ap, ◌∙◌}
use Rattle.std.proofs.lemmas.Result.{IfOk-from_err, err_from_is_err_and}
use Rattle.cost_rows.specs.Rows.{content_of}
use Rattle.line_fills.proofs.Held.{stacks_filled}
use Rattle.run_stores.specs.Files.{stack_rows}
use Rattle.run_stores.proofs.Rows.{stacks_of_run}
use Rattle.prof_store.specs.Lines.{stack_row}
use Rattle.prof_store.specs.Schema.{schema_two, stack_at}
use Rattle.prof_store.specs.Tables.{stack_columns}
use Rattle.page_imports.specs.Causes.{CanPutStacks}
use Rattle.page_imports.proofs.Failing.{refuses_fails}
use Rattle.page_imports.proofs.Put.{lines_put}
use Rattle.page_imports.proofs.Mapped.{mapped_twice}
use Rattle.page_places.proofs.Showing.{table_at}
use Rattle.sqlite_pool.specs.StoredLaws.{Keeps-refl}
use Rattle.page_imports.proofs.rows.put_stacks.Goals as goal

pub returns-clause-done : goal.returns-clause-done
returns-clause-done g c clean = λ wanted known was t shows are can.
    let file = c.args.file.now in
    let run = c.args.run in
    let lines = c.in_ok-lines.lines.items in
    let news = stack_rows run (content_of c.args.rows.now).stacks in
    let now = shows.next in
    let at = table_at file shows.writes shows.holds 7 stack_at refl _ (c.place.ensures known stack_at (c.stack_table.ensures known are)) in
    let columns = ap (map (λ line. stack_columns (stack_row line))) c.deref.ensures.value ∙ mapped_twice stack_columns stack_row lines ∙ ap (map stack_columns) c.in_ok-lines.ensures.value in
    lines_put file c.fill.new.file shows stack_at refl c.fill.result columns (λ next. stacks_filled t now next shows.holds run can.held news (record { of_run = stacks_of_run run (content_of c.args.rows.now).stacks; none = can.none })) (λ (can : CanPutStacks run (content_of c.args.rows.now).stacks now). can.put)
    (c.fill.ensures.done clean schema_two wanted known was now stack_at at)

pub returns-in_err-lines-clause-done : goal.returns-in_err-lines-clause-done
returns-in_err-lines-clause-done g c clean = λ wanted known was t shows are can.
    let run = c.args.run in
    let file = c.args.file.now in
    let p = err_from_is_err_and c.from_residual.result c.from_residual.ensures.1 in
    rw (p.1, p.2) (refuses_fails file file _ (λ (can : CanPutStacks run (content_of c.args.rows.now).stacks shows.next). can.fit) c.in_err-lines.ensures.refused)

pub returns-in_err-lines-clause-leaves : goal.returns-in_err-lines-clause-leaves
returns-in_err-lines-clause-leaves g c = record { usable = IfOk-from_err c.from_residual.result _ c.from_residual.ensures.0; keeps = Keeps-refl _ }

pub returns-clause-leaves : goal.returns-clause-leaves
returns-clause-leaves g c = c.fill.ensures.leaves
