use Rattle.std.proofs.Common.{suc, arith, ℤ, ℕ, List}
use Rattle.std.proofs.lemmas.Result.{IfOk-from_err, err_from_is_err_and}
use Rattle.sqlite_btree.proofs.Results.{within_limit}
use Rattle.sqlite_store.proofs.DbLemmas.{named_laid}
use Rattle.page_files.proofs.Filling.{table_filled}
use Rattle.std.specs.Borrow.{Bor}
use Rattle.std.proofs.lemmas.List.{length-map}
use Rattle.page_files.specs.Rows.{key_of}
use Rattle.page_files.proofs.tree_appends.fill_table.Goals as goal

pub returns-in_err-taken-clause-done : goal.returns-in_err-taken-clause-done
returns-in_err-taken-clause-done g c = λ clean schema t db names same.
    let laid = named_laid db names in
    let table = laid.1.1 in
    let p = err_from_is_err_and c.from_residual.result c.from_residual.ensures.1 in
    rw (p.1, p.2) (within_limit (g.P.Pages.faults c.args.store.now) (g.P.Pages.faults c.args.store.now) _ _ _ (omega arith)
    (c.in_err-taken.ensures.done clean (λ e. absurd cc) (db.layouts (suc t)) table.entries laid.0 (table.stored, table.tight)))

pub returns-clause-done : goal.returns-clause-done
returns-clause-done g c = λ clean schema t db names same.
    let laid = named_laid db names in
    let table = laid.1.1 in
    let done = c.in_ok-taken.ensures.done clean (λ e. absurd cc) (db.layouts (suc t)) table.entries laid.0 (table.stored, table.tight) in
    table_filled db c.in_ok-taken.taken names c.args.rows.now c.requires.strict c.in_ok-taken.ensures.keyed same done.1

pub returns-in_err-taken-clause-within : goal.returns-in_err-taken-clause-within
returns-in_err-taken-clause-within g c = IfOk-from_err c.from_residual.result _ c.from_residual.ensures.0

pub returns-in_err-taken-clause-kept : goal.returns-in_err-taken-clause-kept
returns-in_err-taken-clause-kept g c = c.fill.ensures.kept

pub returns-clause-within : goal.returns-clause-within
returns-clause-within g c = omega (arith, c.in_ok-taken.ensures.within, length-map {B = ℕ × List ℕ} c.args.rows.now (λ (row : ℤ × Bor (List ℕ)). (key_of row.0, row.1.now)))

pub returns-clause-kept : goal.returns-clause-kept
returns-clause-kept g c = c.fill.ensures.kept
