use Rattle.std.proofs.lemmas.Result.{err_from_is_err_and}
use Rattle.sqlite_pages.proofs.Doubt.{no_doubt}
use Rattle.sqlite_trees.specs.Tree.{insert_entry}
use Rattle.page_files.specs.declared.files.PageFile.{PageFile}
use Rattle.page_files.proofs.Editing.{edit_done, edit_fails}
use Rattle.page_files.proofs.Steps.{names}
use Rattle.page_files.proofs.files.PageFile.insert.Goals as goal

pub returns-in_err-insert-clause-done : goal.returns-in_err-insert-clause-done
returns-in_err-insert-clause-done g c faithful = λ wanted roots was now t w is typed.
    let old = c.args.self.now in
    let new : PageFile g.row.D.Denot g.D.Disk = record { pool = c.insert.new.store; scratch = c.insert.new.scratch } in
    let p = err_from_is_err_and c.from_residual.result c.from_residual.ensures.1 in
    rw (p.1, p.2) (edit_fails old new c.insert.ensures.kept.in_order.keeps faithful w c.args.root _ (c.in_err-insert.ensures.done (no_doubt _ faithful) wanted t w.numbered.db (names old new w is) typed))

pub returns-clause-done : goal.returns-clause-done
returns-clause-done g c faithful = λ wanted roots was now t w is typed.
    let old = c.args.self.now in
    let new : PageFile g.row.D.Denot g.D.Disk = record { pool = c.insert.new.store; scratch = c.insert.new.scratch } in
    let done = c.in_ok-insert.ensures.done (no_doubt _ faithful) wanted t w.numbered.db (names old new w is) typed in
    edit_done old new c.insert.ensures.kept.in_order.keeps faithful w (insert_entry c.args.order c.args.entry.now) c.if_usable.result is.low done c.if_usable.ensures.usable c.if_usable.ensures.cause
