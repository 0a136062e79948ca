use Rattle.std.proofs.Common.{suc, arith, ℕ, List}
use Rattle.std.proofs.lemmas.Result.{IfOk-from_err, err_from_is_err_and}
use Rattle.sqlite_btree.proofs.Results.{within_limit}
use Rattle.sqlite_store.proofs.DbLemmas.{named_laid}
use Rattle.sqlite_store.proofs.OrderLemmas.{strict}
use Rattle.page_files.proofs.Filling.{index_filled}
use Rattle.std.specs.Borrow.{Bor}
use Rattle.std.proofs.lemmas.List.{length-map}
use Rattle.page_files.proofs.tree_appends.fill_index.Goals as goal

pub returns-in_err-taken-clause-done : goal.returns-in_err-taken-clause-done
returns-in_err-taken-clause-done g c = λ clean schema t db names same.
    let laid = named_laid db names in
    let index = laid.1.1 in
    let p = err_from_is_err_and c.from_residual.result c.from_residual.ensures.1 in
    rw (p.1, p.2) (within_limit (g.P.Pages.faults c.args.store.now) (g.P.Pages.faults c.args.store.now) _ _ _ (omega arith)
    (c.in_err-taken.ensures.done clean (λ e. strict c.args.order) (db.layouts (suc t)) index.entries laid.0 (index.stored, index.tight)))

pub returns-clause-done : goal.returns-clause-done
returns-clause-done g c = λ clean schema t db names same.
    let laid = named_laid db names in
    let index = laid.1.1 in
    let done = c.in_ok-taken.ensures.done clean (λ e. strict c.args.order) (db.layouts (suc t)) index.entries laid.0 (index.stored, index.tight) in
    index_filled db c.in_ok-taken.taken c.args.order names c.args.entries.now c.requires.strict same done.1

pub returns-in_err-taken-clause-within : goal.returns-in_err-taken-clause-within
returns-in_err-taken-clause-within g c = IfOk-from_err c.from_residual.result _ c.from_residual.ensures.0

pub returns-in_err-taken-clause-kept : goal.returns-in_err-taken-clause-kept
returns-in_err-taken-clause-kept g c = c.fill.ensures.kept

pub returns-clause-within : goal.returns-clause-within
returns-clause-within g c = omega (arith, c.in_ok-taken.ensures.within, length-map {B = ℕ × List ℕ} c.args.entries.now (λ (entry : Bor (List ℕ)). (0, entry.now)))

pub returns-clause-kept : goal.returns-clause-kept
returns-clause-kept g c = c.fill.ensures.kept
