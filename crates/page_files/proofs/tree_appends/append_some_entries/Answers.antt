use Rattle.std.proofs.Common.{◌≡◌, ◌<◌, ℕ, List, [], length, get_or, Ok, Err, Result, sym, arith}
use Rattle.std.specs.Borrow.{Bor}
use Rattle.std.proofs.lemmas.List.{get_or-map, length-map}
use Rattle.sqlite_pages.specs.declared.error.Error.{Error}
use Rattle.std.proofs.lemmas.Result.{IfOk-from_err, err_from_is_err_and}
use Rattle.sqlite_btree.proofs.SpreadLemmas.{no_cell}
use Rattle.sqlite_trees.specs.Tree.{insert_entry}
use Rattle.sqlite_record.specs.Record.{decode}
use Rattle.page_files.specs.Places.{entries_given}
use Rattle.page_files.proofs.Placing.{one_placed}
use Rattle.sqlite_btree.proofs.Results.{steps_on}
use Rattle.page_files.proofs.tree_appends.append_some_entries.Goals as goal

pub returns-in_err-insert_one-clause-done : goal.returns-in_err-insert_one-clause-done
returns-in_err-insert_one-clause-done g c = λ clean schema t db names same.
    let rows = c.args.entries.now in
    let given = entries_given rows in
    let n = c.in_ok-taken.taken in
    let within : n < length given = omega (arith, c.in_ok-taken.ensures.within, c.if-taken-entries.false, length-map rows (λ (entry : Bor (List ℕ)). decode entry.now)) in
    let edits = c.in_ok-taken.ensures.done (omega (arith, clean, c.insert_one.ensures.kept.clean)) schema t db names same in
    let row = get_or rows n no_cell in
    let is : decode row.now ≡ get_or given n [] = sym (get_or-map (λ (r : Bor (List ℕ)). decode r.now) rows n no_cell [] (omega (arith, c.in_ok-taken.ensures.within, c.if-taken-entries.false))) in
    let p = err_from_is_err_and c.from_residual-in_err-insert_one.result c.from_residual-in_err-insert_one.ensures.1 in
    let failed : Result (Unit {0}) Error = Err c.in_err-insert_one.field-0.0 in
    rw (p.1, p.2) (one_placed g.P.Pages c.insert_one.new.store c.fill_index.ensures.kept (insert_entry c.args.order) names clean n given (decode row.now) within is edits same failed c.in_err-insert_one.ensures.done)

pub returns-clause-done : goal.returns-clause-done
returns-clause-done g c = λ clean schema t db names same.
    let rows = c.args.entries.now in
    let given = entries_given rows in
    let n = c.in_ok-taken.taken in
    let within : n < length given = omega (arith, c.in_ok-taken.ensures.within, c.if-taken-entries.false, length-map rows (λ (entry : Bor (List ℕ)). decode entry.now)) in
    let edits = c.in_ok-taken.ensures.done (omega (arith, clean, c.insert_one.ensures.kept.clean)) schema t db names same in
    let row = get_or rows n no_cell in
    let is : decode row.now ≡ get_or given n [] = sym (get_or-map (λ (r : Bor (List ℕ)). decode r.now) rows n no_cell [] (omega (arith, c.in_ok-taken.ensures.within, c.if-taken-entries.false))) in
    one_placed g.P.Pages c.insert_one.new.store c.fill_index.ensures.kept (insert_entry c.args.order) names clean n given (decode row.now) within is edits same (Ok c.in_ok-insert_one.field-0) c.in_ok-insert_one.ensures.done

pub returns-in_err-taken-clause-done : goal.returns-in_err-taken-clause-done
returns-in_err-taken-clause-done g c = λ clean schema t db names same. let p = err_from_is_err_and c.from_residual.result c.from_residual.ensures.1 in rw (p.1, p.2) (c.in_err-taken.ensures.done clean schema t db names same)

pub returns-in_err-taken-clause-within : goal.returns-in_err-taken-clause-within
returns-in_err-taken-clause-within g c = IfOk-from_err c.from_residual.result _ c.from_residual.ensures.0

pub returns-in_err-taken-clause-some : goal.returns-in_err-taken-clause-some
returns-in_err-taken-clause-some g c = IfOk-from_err c.from_residual.result _ c.from_residual.ensures.0

pub returns-in_err-taken-clause-kept : goal.returns-in_err-taken-clause-kept
returns-in_err-taken-clause-kept g c = c.fill_index.ensures.kept

pub returns-then-taken-entries-clause-done : goal.returns-then-taken-entries-clause-done
returns-then-taken-entries-clause-done g c = c.in_ok-taken.ensures.done

pub returns-then-taken-entries-clause-within : goal.returns-then-taken-entries-clause-within
returns-then-taken-entries-clause-within g c = c.in_ok-taken.ensures.within

pub returns-then-taken-entries-clause-some : goal.returns-then-taken-entries-clause-some
returns-then-taken-entries-clause-some g c = omega (arith, c.if-taken-entries.true, c.requires.some)

pub returns-then-taken-entries-clause-kept : goal.returns-then-taken-entries-clause-kept
returns-then-taken-entries-clause-kept g c = c.fill_index.ensures.kept

pub returns-in_err-insert_one-clause-within : goal.returns-in_err-insert_one-clause-within
returns-in_err-insert_one-clause-within g c = IfOk-from_err c.from_residual-in_err-insert_one.result _ c.from_residual-in_err-insert_one.ensures.0

pub returns-in_err-insert_one-clause-some : goal.returns-in_err-insert_one-clause-some
returns-in_err-insert_one-clause-some g c = IfOk-from_err c.from_residual-in_err-insert_one.result _ c.from_residual-in_err-insert_one.ensures.0

pub returns-in_err-insert_one-clause-kept : goal.returns-in_err-insert_one-clause-kept
returns-in_err-insert_one-clause-kept g c = steps_on g.met.P.Pages.follows_trans c.fill_index.ensures.kept c.insert_one.ensures.kept

pub returns-clause-within : goal.returns-clause-within
returns-clause-within g c = omega (arith, c.in_ok-taken.ensures.within, c.if-taken-entries.false)

pub returns-clause-some : goal.returns-clause-some
returns-clause-some g c = omega arith

pub returns-clause-kept : goal.returns-clause-kept
returns-clause-kept g c = steps_on g.met.P.Pages.follows_trans c.fill_index.ensures.kept c.insert_one.ensures.kept
