use Rattle.std.proofs.lemmas.Result.{err_from_is_err_and}
use Rattle.std.proofs.Common.{inr}
use Rattle.sqlite_pages.proofs.Doubt.{no_doubt}
use Rattle.sqlite_trees.specs.Tree.{insert_entry}
use Rattle.page_files.specs.Places.{place_all, entries_given}
use Rattle.page_files.specs.declared.files.PageFile.{PageFile}
use Rattle.page_files.proofs.Causes.{fails_within}
use Rattle.page_files.proofs.Editing.{edit_done}
use Rattle.page_files.proofs.Steps.{names}
use Rattle.page_files.proofs.files.PageFile.append_entries.Goals as goal

pub returns-in_err-append_entries-clause-done : goal.returns-in_err-append_entries-clause-done
returns-in_err-append_entries-clause-done g c faithful = λ wanted roots was now t w is typed.
    let old = c.args.self.now in
    let new : PageFile g.row.D.Denot g.D.Disk = record { pool = c.append_entries.new.store; scratch = c.args.self.now.scratch } in
    let p = err_from_is_err_and c.from_residual.result c.from_residual.ensures.1 in
    let fails = c.in_err-append_entries.ensures.done (no_doubt _ faithful) wanted t w.numbered.db (names old new w is) typed in
    rw (p.1, p.2) (fails_within old new _ _ c.append_entries.ensures.kept.in_order.keeps w.is_open faithful
    (λ met. (record { pool = met.now; scratch = c.args.self.now.scratch }, met.comes.in_order.keeps, inr (inr (c.args.root, met.deep)))) fails)

pub returns-clause-done : goal.returns-clause-done
returns-clause-done g c faithful = λ wanted roots was now t w is typed.
    let old = c.args.self.now in
    let new : PageFile g.row.D.Denot g.D.Disk = record { pool = c.append_entries.new.store; scratch = c.args.self.now.scratch } in
    let done = c.in_ok-append_entries.ensures.done (no_doubt _ faithful) wanted t w.numbered.db (names old new w is) typed in
    edit_done old new c.append_entries.ensures.kept.in_order.keeps faithful w (place_all (insert_entry c.args.order) (entries_given c.args.entries.now)) c.if_usable.result is.low done c.if_usable.ensures.usable c.if_usable.ensures.cause
