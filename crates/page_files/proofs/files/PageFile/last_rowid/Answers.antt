use Rattle.std.proofs.Common.{subst, inr}
use Rattle.std.proofs.lemmas.Result.{IfOk-from_err, err_from_is_err_and}
use Rattle.sqlite_pages.proofs.Doubt.{no_doubt}
use Rattle.page_rows.proofs.FileTables.{table_there, table_shown}
use Rattle.page_files.specs.Lasts.{IsLastRowid}
use Rattle.page_files.proofs.Reading.{fails_later, same_table, OnlyReads-trans}
use Rattle.sqlite_pool.proofs.PoolLemmas.{shut_unless_ready}
use Rattle.sqlite_pool.specs.Pool.{state}
use Rattle.page_files.proofs.files.PageFile.last_rowid.Goals as goal

pub returns-in-Err-OutOfMemory-clause-done : goal.returns-in-Err-OutOfMemory-clause-done
returns-in-Err-OutOfMemory-clause-done g c faithful = λ wanted t shows.
    let kept = c.last_of-last.ensures.kept in
    fails_later c.args.self.now (record { pool = c.last_of-last.new.store; scratch = c.args.self.now.scratch }) c.table_fault.new.self c.table_fault.result kept.more_faults
    c.table_fault.ensures.reads.keeps.stays.faults
    (c.table_fault.ensures.done faithful wanted t (same_table c.args.self.now _ kept.same_size c.last_of-last.ensures.pages shows))

pub returns-in-Err-OutOfMemory-clause-reads : goal.returns-in-Err-OutOfMemory-clause-reads
returns-in-Err-OutOfMemory-clause-reads g c =
    let order = c.last_of-last.ensures.kept.in_order in
    OnlyReads-trans c.args.self.now (record { pool = c.last_of-last.new.store; scratch = c.args.self.now.scratch }) c.table_fault.new.self
    (record { keeps = order.keeps; marks = order.marks; pages = c.last_of-last.ensures.pages }) c.table_fault.ensures.reads

pub returns-in_err-last-clause-done : goal.returns-in_err-last-clause-done
returns-in_err-last-clause-done g c faithful = λ wanted t shows.
    let p = err_from_is_err_and c.from_residual.result c.from_residual.ensures.1 in
    rw (p.1, p.2) (c.in_err-last.ensures.done (no_doubt _ faithful) (table_there shows.is_db shows.rooted))

pub returns-clause-done : goal.returns-clause-done
returns-clause-done g c faithful = λ wanted t shows.
    subst (λ rows. IsLastRowid rows c.in_ok-last.last) (table_shown shows.is_db shows.rooted) (c.in_ok-last.ensures.done (no_doubt _ faithful) (table_there shows.is_db shows.rooted))

pub returns-in-Err-OutOfMemory-clause-usable : goal.returns-in-Err-OutOfMemory-clause-usable
returns-in-Err-OutOfMemory-clause-usable g c = tt

pub returns-in_err-last-clause-reads : goal.returns-in_err-last-clause-reads
returns-in_err-last-clause-reads g c =
    let order = c.last_of-last.ensures.kept.in_order in
    record { keeps = order.keeps; marks = order.marks; pages = c.last_of-last.ensures.pages }

pub returns-in_err-last-clause-usable : goal.returns-in_err-last-clause-usable
returns-in_err-last-clause-usable g c = IfOk-from_err c.from_residual.result _ c.from_residual.ensures.0

pub returns-in_err-if_usable-clause-reads : goal.returns-in_err-if_usable-clause-reads
returns-in_err-if_usable-clause-reads g c =
    let order = c.last_of-last.ensures.kept.in_order in
    record { keeps = order.keeps; marks = order.marks; pages = c.last_of-last.ensures.pages }

pub returns-in_err-if_usable-clause-usable : goal.returns-in_err-if_usable-clause-usable
returns-in_err-if_usable-clause-usable g c = IfOk-from_err c.from_residual-in_err-if_usable.result _ c.from_residual-in_err-if_usable.ensures.0

pub returns-clause-reads : goal.returns-clause-reads
returns-clause-reads g c =
    let order = c.last_of-last.ensures.kept.in_order in
    record { keeps = order.keeps; marks = order.marks; pages = c.last_of-last.ensures.pages }

pub returns-clause-usable : goal.returns-clause-usable
returns-clause-usable g c = c.in_ok-if_usable.ensures.usable

pub returns-in_err-if_usable-clause-done : goal.returns-in_err-if_usable-clause-done
returns-in_err-if_usable-clause-done g c = λ faithful wanted t shows.
    let p = err_from_is_err_and c.from_residual-in_err-if_usable.result c.from_residual-in_err-if_usable.ensures.1 in
    let cause = c.in_err-if_usable.ensures.cause in
    rw (p.1, p.2, cause.0) (inr (shut_unless_ready (state c.last_of-last.new.store) cause.1))
