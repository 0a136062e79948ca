use Rattle.std.proofs.Common.{suc, arith, ◌≡◌}
use Rattle.std.proofs.lemmas.Result.{IfOk-from_err, err_from_is_err_and}
use Rattle.sqlite_btree.proofs.Results.{within_limit}
use Rattle.sqlite_btree.specs.Stored.{no_order}
use Rattle.sqlite_format.specs.declared.kind.Tree.TheVariants as kind
use Rattle.sqlite_store.proofs.DbLemmas.{named_laid}
use Rattle.page_files.proofs.TrimmedRows.{table_trimmed}
use Rattle.page_files.proofs.tree_removals.trim_rows.Goals as goal

-- a table is no index
no_index : {X : Type 0} → kind.Table ≡ kind.Index → X
no_index e = absurd cc

pub returns-in_err-taken-clause-done : goal.returns-in_err-taken-clause-done
returns-in_err-taken-clause-done g c = λ clean schema t db names.
    let laid = named_laid db names in
    let table = laid.1.1 in
    let p = err_from_is_err_and c.from_residual.result c.from_residual.ensures.1 in
    rw (p.1, p.2) (within_limit (g.P.Pages.faults c.args.store.now) (g.P.Pages.faults c.args.store.now) _ _ _ (omega arith)
    (c.in_err-taken.ensures.done clean no_order no_index (db.layouts (suc t)) table.entries laid.0 (table.stored, table.tight)))

pub returns-clause-done : goal.returns-clause-done
returns-clause-done g c = λ clean schema t db names.
    let laid = named_laid db names in
    let table = laid.1.1 in
    table_trimmed db names c.args.rowids.now c.in_ok-taken.taken (omega (arith, c.in_ok-taken.ensures.few, c.requires.some))
    (c.in_ok-taken.ensures.done clean no_order no_index (db.layouts (suc t)) table.entries laid.0 (table.stored, table.tight))

pub returns-in_err-taken-clause-few : goal.returns-in_err-taken-clause-few
returns-in_err-taken-clause-few g c = IfOk-from_err c.from_residual.result _ c.from_residual.ensures.0

pub returns-in_err-taken-clause-kept : goal.returns-in_err-taken-clause-kept
returns-in_err-taken-clause-kept g c = c.trim.ensures.kept

pub returns-clause-few : goal.returns-clause-few
returns-clause-few g c = omega (arith, c.in_ok-taken.ensures.few, c.requires)

pub returns-clause-kept : goal.returns-clause-kept
returns-clause-kept g c = c.trim.ensures.kept
