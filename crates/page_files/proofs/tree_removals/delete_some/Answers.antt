use Rattle.std.proofs.Common.{◌≡◌, ◌+◌, ◌++◌, pos, [], ◌∷◌, take, get_or, rules, to_z, of_z, w64, Ok, Err, Result, sym, ap, ◌∙◌, arith}
use Rattle.std.proofs.lemmas.List.{take_more}
use Rattle.std.proofs.lemmas.Result.{IfOk-from_err, err_from_is_err_and}
use Rattle.sqlite_pages.specs.declared.error.Error.{Error}
use Rattle.sqlite_trees.specs.Tree.{without_rowid}
use Rattle.page_files.specs.Removals.{without_rowids}
use Rattle.page_files.proofs.Placing.{edits_as}
use Rattle.page_files.proofs.Thinning.{edit_next, without_rowids-append}
use Rattle.sqlite_btree.proofs.Results.{steps_on}
use Rattle.page_files.proofs.tree_removals.delete_some.Goals as goal

pub returns-in_err-delete-clause-done : goal.returns-in_err-delete-clause-done
returns-in_err-delete-clause-done g c = λ clean schema t db names.
    let n = c.in_ok-taken.taken in
    let id = get_or c.args.rowids.now n (pos 0) in
    let edits = c.in_ok-taken.ensures.done (omega (arith, clean, c.delete.ensures.kept.clean)) schema t db names in
    let p = err_from_is_err_and c.from_residual-in_err-delete.result c.from_residual-in_err-delete.ensures.1 in
    let failed : Result (Unit {0}) Error = Err c.in_err-delete.field-0.0 in
    rw (p.1, p.2) (edit_next g.P.Pages c.delete.new.store c.trim_rows.ensures.kept names clean (without_rowids (take n c.args.rowids.now)) (without_rowid (to_z w64 (of_z w64 id))) edits failed c.in_err-delete.ensures.done)

pub returns-clause-done : goal.returns-clause-done
returns-clause-done g c = λ clean schema t db names.
    let ids = c.args.rowids.now in
    let n = c.in_ok-taken.taken in
    let id = get_or ids n (pos 0) in
    let edits = c.in_ok-taken.ensures.done (omega (arith, clean, c.delete.ensures.kept.clean)) schema t db names in
    let back : to_z w64 (of_z w64 id) ≡ id = search rules in
    let one : take (n + 1) ids ≡ take n ids ++ id ∷ [] = take_more ids n (pos 0) (omega (arith, c.in_ok-taken.ensures.few)) in
    edits_as (λ rows. ap (λ z. without_rowid z (without_rowids (take n ids) rows)) back ∙ sym (ap (λ l. without_rowids l rows) one ∙ without_rowids-append (take n ids) (id ∷ []) rows))
    (edit_next g.P.Pages c.delete.new.store c.trim_rows.ensures.kept names clean (without_rowids (take n ids)) (without_rowid (to_z w64 (of_z w64 id))) edits (Ok c.in_ok-delete.field-0) c.in_ok-delete.ensures.done)

pub returns-in_err-taken-clause-within : goal.returns-in_err-taken-clause-within
returns-in_err-taken-clause-within g c = IfOk-from_err c.from_residual.result _ c.from_residual.ensures.0

pub returns-in_err-taken-clause-some : goal.returns-in_err-taken-clause-some
returns-in_err-taken-clause-some g c = IfOk-from_err c.from_residual.result _ c.from_residual.ensures.0

pub returns-in_err-taken-clause-kept : goal.returns-in_err-taken-clause-kept
returns-in_err-taken-clause-kept g c = c.trim_rows.ensures.kept

pub returns-in_err-delete-clause-within : goal.returns-in_err-delete-clause-within
returns-in_err-delete-clause-within g c = IfOk-from_err c.from_residual-in_err-delete.result _ c.from_residual-in_err-delete.ensures.0

pub returns-in_err-delete-clause-some : goal.returns-in_err-delete-clause-some
returns-in_err-delete-clause-some g c = IfOk-from_err c.from_residual-in_err-delete.result _ c.from_residual-in_err-delete.ensures.0

pub returns-in_err-delete-clause-kept : goal.returns-in_err-delete-clause-kept
returns-in_err-delete-clause-kept g c = steps_on g.met.P.Pages.follows_trans c.trim_rows.ensures.kept c.delete.ensures.kept

pub returns-clause-within : goal.returns-clause-within
returns-clause-within g c = omega (arith, c.in_ok-taken.ensures.few)

pub returns-clause-some : goal.returns-clause-some
returns-clause-some g c = omega arith

pub returns-clause-kept : goal.returns-clause-kept
returns-clause-kept g c = steps_on g.met.P.Pages.follows_trans c.trim_rows.ensures.kept c.delete.ensures.kept
