use Rattle.std.proofs.Common.{◌≡◌, ◌<◌, rules, to_z, of_z, w64, ℤ, pos, ℕ, List, [], length, get_or, Ok, Err, Result, sym, ap, ◌∙◌, arith}
use Rattle.std.specs.Borrow.{Bor}
use Rattle.std.proofs.lemmas.List.{get_or-map, length-map}
use Rattle.sqlite_pages.specs.declared.error.Error.{Error}
use Rattle.std.proofs.lemmas.Result.{IfOk-from_err, err_from_is_err_and}
use Rattle.sqlite_btree.proofs.SpreadLemmas.{no_cell}
use Rattle.sqlite_trees.specs.Tree.{put_row}
use Rattle.sqlite_store.specs.Db.{table_row}
use Rattle.page_files.specs.Places.{rows_given}
use Rattle.page_files.proofs.Placing.{one_placed}
use Rattle.sqlite_btree.proofs.Results.{steps_on}
use Rattle.page_files.proofs.tree_appends.append_some.Goals as goal

pub returns-in_err-put-clause-done : goal.returns-in_err-put-clause-done
returns-in_err-put-clause-done g c = λ clean schema t db names same.
    let rows = c.args.rows.now in
    let given = rows_given rows in
    let n = c.in_ok-taken.taken in
    let within : n < length given = omega (arith, c.in_ok-taken.ensures.within, c.if-taken-rows.false, length-map rows (λ (row : ℤ × Bor (List ℕ)). table_row (row.0, row.1.now))) in
    let edits = c.in_ok-taken.ensures.done (omega (arith, clean, c.put.ensures.kept.clean)) schema t db names same in
    let row = get_or rows n (pos 0, no_cell) in
    let back : to_z w64 (of_z w64 row.0) ≡ row.0 = search rules in
    let is : table_row (row.0, row.1.now) ≡ get_or given n [] = sym (get_or-map (λ (r : ℤ × Bor (List ℕ)). table_row (r.0, r.1.now)) rows n (pos 0, no_cell) [] (omega (arith, c.in_ok-taken.ensures.within, c.if-taken-rows.false))) in
    let p = err_from_is_err_and c.from_residual-in_err-put.result c.from_residual-in_err-put.ensures.1 in
    let failed : Result (Unit {0}) Error = Err c.in_err-put.field-0.0 in
    rw (p.1, p.2) (one_placed g.P.Pages c.put.new.store c.fill_table.ensures.kept put_row names clean n given (table_row (to_z w64 (of_z w64 row.0), row.1.now)) within (ap (λ z. table_row (z, row.1.now)) back ∙ is) edits same failed c.in_err-put.ensures.done)

pub returns-clause-done : goal.returns-clause-done
returns-clause-done g c = λ clean schema t db names same.
    let rows = c.args.rows.now in
    let given = rows_given rows in
    let n = c.in_ok-taken.taken in
    let within : n < length given = omega (arith, c.in_ok-taken.ensures.within, c.if-taken-rows.false, length-map rows (λ (row : ℤ × Bor (List ℕ)). table_row (row.0, row.1.now))) in
    let edits = c.in_ok-taken.ensures.done (omega (arith, clean, c.put.ensures.kept.clean)) schema t db names same in
    let row = get_or rows n (pos 0, no_cell) in
    let back : to_z w64 (of_z w64 row.0) ≡ row.0 = search rules in
    let is : table_row (row.0, row.1.now) ≡ get_or given n [] = sym (get_or-map (λ (r : ℤ × Bor (List ℕ)). table_row (r.0, r.1.now)) rows n (pos 0, no_cell) [] (omega (arith, c.in_ok-taken.ensures.within, c.if-taken-rows.false))) in
    one_placed g.P.Pages c.put.new.store c.fill_table.ensures.kept put_row names clean n given (table_row (to_z w64 (of_z w64 row.0), row.1.now)) within (ap (λ z. table_row (z, row.1.now)) back ∙ is) edits same (Ok c.in_ok-put.field-0) c.in_ok-put.ensures.done

pub returns-in_err-taken-clause-done : goal.returns-in_err-taken-clause-done
returns-in_err-taken-clause-done g c = λ clean schema t db names same. let p = err_from_is_err_and c.from_residual.result c.from_residual.ensures.1 in rw (p.1, p.2) (c.in_err-taken.ensures.done clean schema t db names same)

pub returns-in_err-taken-clause-within : goal.returns-in_err-taken-clause-within
returns-in_err-taken-clause-within g c = IfOk-from_err c.from_residual.result _ c.from_residual.ensures.0

pub returns-in_err-taken-clause-some : goal.returns-in_err-taken-clause-some
returns-in_err-taken-clause-some g c = IfOk-from_err c.from_residual.result _ c.from_residual.ensures.0

pub returns-in_err-taken-clause-kept : goal.returns-in_err-taken-clause-kept
returns-in_err-taken-clause-kept g c = c.fill_table.ensures.kept

pub returns-then-taken-rows-clause-done : goal.returns-then-taken-rows-clause-done
returns-then-taken-rows-clause-done g c = c.in_ok-taken.ensures.done

pub returns-then-taken-rows-clause-within : goal.returns-then-taken-rows-clause-within
returns-then-taken-rows-clause-within g c = c.in_ok-taken.ensures.within

pub returns-then-taken-rows-clause-some : goal.returns-then-taken-rows-clause-some
returns-then-taken-rows-clause-some g c = omega (arith, c.if-taken-rows.true, c.requires.some)

pub returns-then-taken-rows-clause-kept : goal.returns-then-taken-rows-clause-kept
returns-then-taken-rows-clause-kept g c = c.fill_table.ensures.kept

pub returns-in_err-put-clause-within : goal.returns-in_err-put-clause-within
returns-in_err-put-clause-within g c = IfOk-from_err c.from_residual-in_err-put.result _ c.from_residual-in_err-put.ensures.0

pub returns-in_err-put-clause-some : goal.returns-in_err-put-clause-some
returns-in_err-put-clause-some g c = IfOk-from_err c.from_residual-in_err-put.result _ c.from_residual-in_err-put.ensures.0

pub returns-in_err-put-clause-kept : goal.returns-in_err-put-clause-kept
returns-in_err-put-clause-kept g c = steps_on g.met.P.Pages.follows_trans c.fill_table.ensures.kept c.put.ensures.kept

pub returns-clause-within : goal.returns-clause-within
returns-clause-within g c = omega (arith, c.in_ok-taken.ensures.within, c.if-taken-rows.false)

pub returns-clause-some : goal.returns-clause-some
returns-clause-some g c = omega arith

pub returns-clause-kept : goal.returns-clause-kept
returns-clause-kept g c = steps_on g.met.P.Pages.follows_trans c.fill_table.ensures.kept c.put.ensures.kept
