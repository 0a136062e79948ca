use Rattle.std.proofs.Common.{length, map, filter, IsPermutation, ap, subst, sym, ◌∙◌, arith}
use Rattle.std.proofs.lemmas.List.Sorted.{IsPermutation-trans}
use Rattle.sqlite_value.specs.Keys.{plain}
use Rattle.page_files.specs.Trees.{trees_of}
use Rattle.page_rows.specs.Indexes.{begins_with}
use Rattle.row_writes.specs.Under.{entry_id}
use Rattle.row_writes.proofs.RowsUnder.{whole_back}
use Rattle.std.proofs.lemmas.Result.{IfOk-from_err, err_from_is_err_and}
use Rattle.row_writes.proofs.under.rowids_under.Goals as goal

pub returns-clause-done : goal.returns-clause-done
returns-clause-done g c faithful = λ wanted t shows.
    let given = map entry_id (filter (begins_with plain c.args.prefix.now) (trees_of wanted c.args.file.now t)) in
    let ids = c.in_ok-rowids.rowids in
    let sorted = c.sort_unstable.new.self in
    let found = c.in_ok-rowids.ensures.done faithful wanted t shows in
    let moved = subst (λ l. IsPermutation l sorted) c.as_mut_slice.ensures.value c.sort_unstable.ensures.permutation in
    let back = whole_back ids.len sorted ids.items (c.sort_unstable.ensures.len ∙ ap length c.as_mut_slice.ensures.value) (omega (arith, ids.ok.0)) in
    subst (IsPermutation given) (sym back) (IsPermutation-trans given ids.items sorted found moved)

pub returns-in_err-rowids-clause-done : goal.returns-in_err-rowids-clause-done
returns-in_err-rowids-clause-done g c = λ faithful wanted t shows. let p = err_from_is_err_and c.from_residual.result c.from_residual.ensures.1 in rw (p.1, p.2) (c.in_err-rowids.ensures.done faithful wanted t shows)

pub returns-in_err-rowids-clause-reads : goal.returns-in_err-rowids-clause-reads
returns-in_err-rowids-clause-reads g c = c.walk_under.ensures.reads

pub returns-in_err-rowids-clause-usable : goal.returns-in_err-rowids-clause-usable
returns-in_err-rowids-clause-usable g c = IfOk-from_err c.from_residual.result _ c.from_residual.ensures.0

pub returns-clause-reads : goal.returns-clause-reads
returns-clause-reads g c = c.walk_under.ensures.reads

pub returns-clause-usable : goal.returns-clause-usable
returns-clause-usable g c = c.in_ok-rowids.ensures.usable
