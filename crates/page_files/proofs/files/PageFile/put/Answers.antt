use Rattle.std.proofs.Common.{◌≡◌, sym, subst, to_z-of_z, to_z, of_z, w64}
use Rattle.std.proofs.lemmas.Result.{err_from_is_err_and}
use Rattle.sqlite_pages.proofs.Doubt.{no_doubt}
use Rattle.sqlite_store.specs.Db.{shown, table_row}
use Rattle.sqlite_store.specs.Catalog.{reals_at}
use Rattle.sqlite_trees.specs.declared.store.Shape.TheVariants.{Table}
use Rattle.sqlite_trees.specs.Tree.{put_row}
use Rattle.page_files.specs.declared.files.PageFile.{PageFile}
use Rattle.page_files.specs.Writes.{EditsOrFails}
use Rattle.page_files.proofs.Editing.{edit_done, edit_fails}
use Rattle.page_files.proofs.Steps.{names}
use Rattle.page_files.proofs.files.PageFile.put.Goals as goal

pub returns-in_err-put-clause-done : goal.returns-in_err-put-clause-done
returns-in_err-put-clause-done g c faithful = λ wanted roots was now t w is typed.
    let old = c.args.self.now in
    let new : PageFile g.row.D.Denot g.D.Disk = record { pool = c.put.new.store; scratch = c.put.new.scratch } in
    let same = to_z-of_z c.ranges.rowid in
    let as_typed = subst (λ n. shown Table (reals_at wanted t) (table_row (n, c.args.fields.now)) ≡ table_row (n, c.args.fields.now)) (sym same) typed in
    let p = err_from_is_err_and c.from_residual.result c.from_residual.ensures.1 in
    rw (p.1, p.2) (edit_fails old new c.put.ensures.kept.in_order.keeps faithful w c.args.root _ (c.in_err-put.ensures.done (no_doubt _ faithful) wanted t w.numbered.db (names old new w is) as_typed))

pub returns-clause-done : goal.returns-clause-done
returns-clause-done g c faithful = λ wanted roots was now t w is typed.
    let old = c.args.self.now in
    let new : PageFile g.row.D.Denot g.D.Disk = record { pool = c.put.new.store; scratch = c.put.new.scratch } in
    let id = to_z w64 (of_z w64 c.args.rowid) in
    let same : id ≡ c.args.rowid = to_z-of_z c.ranges.rowid in
    let as_typed = subst (λ n. shown Table (reals_at wanted t) (table_row (n, c.args.fields.now)) ≡ table_row (n, c.args.fields.now)) (sym same) typed in
    let done = c.in_ok-put.ensures.done (no_doubt _ faithful) wanted t w.numbered.db (names old new w is) as_typed in
    subst (λ n. EditsOrFails old new (put_row (table_row (n, c.args.fields.now))) c.if_usable.result wanted roots was now t) same
    (edit_done old new c.put.ensures.kept.in_order.keeps faithful w (put_row (table_row (id, c.args.fields.now))) c.if_usable.result is.low done c.if_usable.ensures.usable c.if_usable.ensures.cause)
