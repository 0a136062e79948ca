use Rattle.std.proofs.Common.{◌∙◌, inr}
use Rattle.std.proofs.lemmas.Result.{IfOk-from_err, err_from_is_err_and}
use Rattle.sqlite_pages.proofs.Doubt.{no_doubt}
use Rattle.page_rows.proofs.FileTables.{schema_there, index_stated}
use Rattle.sqlite_pool.proofs.PoolLemmas.{shut_unless_ready}
use Rattle.sqlite_pool.specs.Pool.{state}
use Rattle.page_files.proofs.files.PageFile.index_root.Goals as goal

pub returns-in_err-root-clause-done : goal.returns-in_err-root-clause-done
returns-in_err-root-clause-done g c faithful = λ wanted t order shows is.
    let p = err_from_is_err_and c.from_residual.result c.from_residual.ensures.1 in
    rw (p.1, p.2) (c.in_err-root.ensures.done (no_doubt _ faithful) (schema_there shows.is_db))

pub returns-clause-done : goal.returns-clause-done
returns-clause-done g c faithful = λ wanted t order shows is.
    c.in_ok-root.ensures.done (no_doubt _ faithful) (schema_there shows.is_db) ∙ index_stated shows.is_db shows.no_zero t c.args.name.now order is

pub returns-in_err-root-clause-reads : goal.returns-in_err-root-clause-reads
returns-in_err-root-clause-reads g c =
    let order = c.root_named.ensures.kept.in_order in
    record { keeps = order.keeps; marks = order.marks; pages = c.root_named.ensures.pages }

pub returns-in_err-root-clause-usable : goal.returns-in_err-root-clause-usable
returns-in_err-root-clause-usable g c = IfOk-from_err c.from_residual.result _ c.from_residual.ensures.0

pub returns-in_err-if_usable-clause-reads : goal.returns-in_err-if_usable-clause-reads
returns-in_err-if_usable-clause-reads g c =
    let order = c.root_named.ensures.kept.in_order in
    record { keeps = order.keeps; marks = order.marks; pages = c.root_named.ensures.pages }

pub returns-in_err-if_usable-clause-usable : goal.returns-in_err-if_usable-clause-usable
returns-in_err-if_usable-clause-usable g c = IfOk-from_err c.from_residual-in_err-if_usable.result _ c.from_residual-in_err-if_usable.ensures.0

pub returns-clause-reads : goal.returns-clause-reads
returns-clause-reads g c =
    let order = c.root_named.ensures.kept.in_order in
    record { keeps = order.keeps; marks = order.marks; pages = c.root_named.ensures.pages }

pub returns-clause-usable : goal.returns-clause-usable
returns-clause-usable g c = c.in_ok-if_usable.ensures.usable

pub returns-in_err-if_usable-clause-done : goal.returns-in_err-if_usable-clause-done
returns-in_err-if_usable-clause-done g c = λ faithful wanted t order shows is.
    let p = err_from_is_err_and c.from_residual-in_err-if_usable.result c.from_residual-in_err-if_usable.ensures.1 in
    let cause = c.in_err-if_usable.ensures.cause in
    rw (p.1, p.2, cause.0) (inr (shut_unless_ready (state c.root_named.new.store) cause.1))
