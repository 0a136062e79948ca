use Rattle.std.proofs.Common.{subst, subst₂, to_z-of_z}
use Rattle.std.proofs.lemmas.Result.{IfOk-from_err, err_from_is_err_and}
use Rattle.sqlite_pages.proofs.Doubt.{no_doubt}
use Rattle.page_rows.specs.Rows.{from_rowid, rows_of}
use Rattle.page_rows.specs.Walks.{HasWalked, FailsToWalk, MayRefuse}
use Rattle.page_files.specs.Files.{page_size, pages_of, FailsToRead}
use Rattle.page_rows.proofs.FileTables.{table_there, table_shown}
use Rattle.page_files.proofs.Reading.{fails_later, same_table, OnlyReads-trans}
use Rattle.page_files.proofs.files.PageFile.walk.Goals as goal

pub returns-in-Err-Pages-OutOfMemory-clause-done : goal.returns-in-Err-Pages-OutOfMemory-clause-done
returns-in-Err-Pages-OutOfMemory-clause-done g c faithful = λ wanted t shows start begun.
    let kept = c.walk-walked.ensures.kept in
    fails_later c.args.self.now (record { pool = c.walk-walked.new.store; scratch = c.args.self.now.scratch }) c.table_fault.new.self c.table_fault.result kept.more_faults
    c.table_fault.ensures.reads.keeps.stays.faults
    (c.table_fault.ensures.done faithful wanted t (same_table c.args.self.now _ kept.same_size c.walk-walked.ensures.pages shows))

pub returns-in-Err-Pages-OutOfMemory-clause-reads : goal.returns-in-Err-Pages-OutOfMemory-clause-reads
returns-in-Err-Pages-OutOfMemory-clause-reads g c =
    let order = c.walk-walked.ensures.kept.in_order in
    OnlyReads-trans c.args.self.now (record { pool = c.walk-walked.new.store; scratch = c.args.self.now.scratch }) c.table_fault.new.self
    (record { keeps = order.keeps; marks = order.marks; pages = c.walk-walked.ensures.pages }) c.table_fault.ensures.reads

pub returns-in_err-walked-clause-done : goal.returns-in_err-walked-clause-done
returns-in_err-walked-clause-done g c faithful = λ wanted t shows start begun.
    let s = g.T.RowSink in
    let p = err_from_is_err_and c.from_residual.result c.from_residual.ensures.1 in
    let here = table_there shows.is_db shows.rooted in
    rw (p.1, p.2) (subst₂ (λ id rows. FailsToWalk (FailsToRead c.args.self.now (record { pool = c.walk-walked.new.store; scratch = c.args.self.now.scratch })) (MayRefuse s.Refuses (from_rowid id rows)) c.in_err-walked.field-0.0)
    (to_z-of_z c.ranges.from) (table_shown shows.is_db shows.rooted) (c.in_err-walked.ensures.done (no_doubt _ faithful) here start begun))

pub returns-clause-done : goal.returns-clause-done
returns-clause-done g c faithful = λ wanted t shows start begun.
    let s = g.T.RowSink in
    subst₂ (λ id rows. HasWalked s.Has s.Ends start (from_rowid id rows) c.walk-walked.new.sink) (to_z-of_z c.ranges.from) (table_shown shows.is_db shows.rooted)
    (c.in_ok-walked.ensures.done (no_doubt _ faithful) (table_there shows.is_db shows.rooted) start begun)

pub returns-in-Err-Pages-OutOfMemory-clause-rows : goal.returns-in-Err-Pages-OutOfMemory-clause-rows
returns-in-Err-Pages-OutOfMemory-clause-rows g c = λ faithful has start begun. tt

pub returns-in_err-walked-clause-rows : goal.returns-in_err-walked-clause-rows
returns-in_err-walked-clause-rows g c = λ faithful has start begun. IfOk-from_err c.from_residual.result _ c.from_residual.ensures.0

pub returns-in_err-if_usable-clause-rows : goal.returns-in_err-if_usable-clause-rows
returns-in_err-if_usable-clause-rows g c = λ faithful has start begun. IfOk-from_err c.from_residual-in_err-if_usable.result _ c.from_residual-in_err-if_usable.ensures.0

pub returns-clause-rows : goal.returns-clause-rows
returns-clause-rows g c faithful = λ has start begun.
    let s = g.T.RowSink in
    subst (λ id. HasWalked s.Has s.Ends start (from_rowid id (rows_of (page_size c.args.self.now) (pages_of c.args.self.now) c.args.root)) c.walk-walked.new.sink) (to_z-of_z c.ranges.from)
    (c.in_ok-walked.ensures.done (no_doubt _ faithful) has start begun)
