use Rattle.std.proofs.Common.{◌≡◌, subst, to_z-of_z, to_z, of_z, w64}
use Rattle.std.proofs.lemmas.Result.{err_from_is_err_and}
use Rattle.sqlite_pages.proofs.Doubt.{no_doubt}
use Rattle.sqlite_trees.specs.Tree.{without_rowid}
use Rattle.page_files.specs.declared.files.PageFile.{PageFile}
use Rattle.page_files.specs.Writes.{EditsOrFails}
use Rattle.page_files.proofs.Editing.{edit_done, edit_fails}
use Rattle.page_files.proofs.Steps.{names}
use Rattle.page_files.proofs.files.PageFile.delete.Goals as goal

pub returns-in_err-delete-clause-done : goal.returns-in_err-delete-clause-done
returns-in_err-delete-clause-done g c faithful = λ wanted roots was now t w is.
    let old = c.args.self.now in
    let new : PageFile g.row.D.Denot g.D.Disk = record { pool = c.delete.new.store; scratch = c.delete.new.scratch } in
    let p = err_from_is_err_and c.from_residual.result c.from_residual.ensures.1 in
    rw (p.1, p.2) (edit_fails old new c.delete.ensures.kept.in_order.keeps faithful w c.args.root _ (c.in_err-delete.ensures.done (no_doubt _ faithful) wanted t w.numbered.db (names old new w is)))

pub returns-clause-done : goal.returns-clause-done
returns-clause-done g c faithful = λ wanted roots was now t w is.
    let old = c.args.self.now in
    let new : PageFile g.row.D.Denot g.D.Disk = record { pool = c.delete.new.store; scratch = c.delete.new.scratch } in
    let id = to_z w64 (of_z w64 c.args.rowid) in
    let same : id ≡ c.args.rowid = to_z-of_z c.ranges.rowid in
    let done = c.in_ok-delete.ensures.done (no_doubt _ faithful) wanted t w.numbered.db (names old new w is) in
    subst (λ n. EditsOrFails old new (without_rowid n) c.if_usable.result wanted roots was now t) same
    (edit_done old new c.delete.ensures.kept.in_order.keeps faithful w (without_rowid id) c.if_usable.result is.low done c.if_usable.ensures.usable c.if_usable.ensures.cause)
