use Rattle.std.proofs.lemmas.Result.{err_from_is_err_and}
use Rattle.sqlite_pages.proofs.Doubt.{no_doubt}
use Rattle.sqlite_trees.specs.Tree.{remove_entry}
use Rattle.page_files.specs.declared.files.PageFile.{PageFile}
use Rattle.page_files.proofs.Editing.{edit_done, edit_fails}
use Rattle.page_files.proofs.Steps.{names}
use Rattle.page_files.proofs.files.PageFile.remove.Goals as goal

pub returns-in_err-remove-clause-done : goal.returns-in_err-remove-clause-done
returns-in_err-remove-clause-done g c faithful = λ wanted roots was now t w is.
    let old = c.args.self.now in
    let new : PageFile g.row.D.Denot g.D.Disk = record { pool = c.remove.new.store; scratch = c.remove.new.scratch } in
    let p = err_from_is_err_and c.from_residual.result c.from_residual.ensures.1 in
    rw (p.1, p.2) (edit_fails old new c.remove.ensures.kept.in_order.keeps faithful w c.args.root _ (c.in_err-remove.ensures.done (no_doubt _ faithful) wanted t w.numbered.db (names old new w is)))

pub returns-clause-done : goal.returns-clause-done
returns-clause-done g c faithful = λ wanted roots was now t w is.
    let old = c.args.self.now in
    let new : PageFile g.row.D.Denot g.D.Disk = record { pool = c.remove.new.store; scratch = c.remove.new.scratch } in
    let done = c.in_ok-remove.ensures.done (no_doubt _ faithful) wanted t w.numbered.db (names old new w is) in
    edit_done old new c.remove.ensures.kept.in_order.keeps faithful w (remove_entry c.args.order c.args.entry.now) c.if_usable.result is.low done c.if_usable.ensures.usable c.if_usable.ensures.cause
