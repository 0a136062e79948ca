use Rattle.std.proofs.Common.{suc, arith}
use Rattle.std.proofs.lemmas.Result.{err_from_is_err_and}
use Rattle.sqlite_btree.proofs.Results.{within_limit}
use Rattle.sqlite_store.specs.Db.{record_order}
use Rattle.sqlite_store.proofs.DbLemmas.{named_laid}
use Rattle.sqlite_store.proofs.OrderLemmas.{strict}
use Rattle.page_files.proofs.TrimmedRows.{index_trimmed}
use Rattle.page_files.proofs.tree_removals.trim_under.Goals as goal

pub returns-in_err-trim-clause-done : goal.returns-in_err-trim-clause-done
returns-in_err-trim-clause-done g c = λ clean schema t db names.
    let k = c.args.order in
    let laid = named_laid db names in
    let index = laid.1.1 in
    let p = err_from_is_err_and c.from_residual.result c.from_residual.ensures.1 in
    rw (p.1, p.2) (within_limit (g.P.Pages.faults c.args.store.now) (g.P.Pages.faults c.args.store.now) _ _ _ (omega arith)
    (c.in_err-trim.ensures.done clean (record_order k) (λ e. strict k) (db.layouts (suc t)) index.entries laid.0 (index.stored, index.tight)))

pub returns-clause-done : goal.returns-clause-done
returns-clause-done g c = λ clean schema t db names.
    let k = c.args.order in
    let laid = named_laid db names in
    let index = laid.1.1 in
    index_trimmed k c.args.prefix.now db names c.in_ok-trim.field-0
    (c.in_ok-trim.ensures.done clean (record_order k) (λ e. strict k) (db.layouts (suc t)) index.entries laid.0 (index.stored, index.tight))
