use Rattle.std.proofs.Common.{inr}
use Rattle.std.proofs.lemmas.Result.{err_from_is_err_and}
use Rattle.sqlite_pages.proofs.Doubt.{no_doubt}
use Rattle.page_files.specs.Removals.{has_prefix, without}
use Rattle.page_files.specs.declared.files.PageFile.{PageFile}
use Rattle.page_files.proofs.Causes.{fails_within}
use Rattle.page_files.proofs.Editing.{edit_done}
use Rattle.page_files.proofs.Steps.{names}
use Rattle.page_files.proofs.files.PageFile.remove_under.Goals as goal

pub returns-in_err-remove_under-clause-done : goal.returns-in_err-remove_under-clause-done
returns-in_err-remove_under-clause-done g c faithful = λ wanted roots was now t w is.
    let old = c.args.self.now in
    let new : PageFile g.row.D.Denot g.D.Disk = record { pool = c.remove_under.new.store; scratch = c.args.self.now.scratch } in
    let p = err_from_is_err_and c.from_residual.result c.from_residual.ensures.1 in
    rw (p.1, p.2) (fails_within old new _ _ c.remove_under.ensures.kept.in_order.keeps w.is_open faithful (λ was. (record old { pool = was.mid }, was.kept.in_order.keeps, inr (inr (c.args.root, was.deep)))) (c.in_err-remove_under.ensures.done (no_doubt _ faithful) wanted t w.numbered.db (names old new w is)))

pub returns-clause-done : goal.returns-clause-done
returns-clause-done g c faithful = λ wanted roots was now t w is.
    let old = c.args.self.now in
    let new : PageFile g.row.D.Denot g.D.Disk = record { pool = c.remove_under.new.store; scratch = c.args.self.now.scratch } in
    let done = c.in_ok-remove_under.ensures.done (no_doubt _ faithful) wanted t w.numbered.db (names old new w is) in
    edit_done old new c.remove_under.ensures.kept.in_order.keeps faithful w (without (has_prefix c.args.order c.args.prefix.now)) c.if_usable.result is.low done c.if_usable.ensures.usable c.if_usable.ensures.cause
