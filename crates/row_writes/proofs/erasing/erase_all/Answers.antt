use Rattle.std.proofs.Common.{rules, ◌≡◌, pos, get_or, subst, to_z-of_z, to_z, of_z, w64, take_all}
use Rattle.std.proofs.lemmas.Result.{err_from_is_err_and}
use Rattle.std.specs.Prelude.{⊤}
use Rattle.sqlite_pool.specs.Pool.{state}
use Rattle.sqlite_pool.specs.StoredLaws.{Keeps-refl, Keeps-trans}
use Rattle.sqlite_rules.specs.Edit.{without_all}
use Rattle.sqlite_trees.specs.Tree.{without_rowid}
use Rattle.page_places.specs.Changes.{HasRows}
use Rattle.row_writes.proofs.Erased.{one_erased, shows_next}
use Rattle.page_places.proofs.Filling.{changes_later}
use Rattle.page_places.proofs.Outcomes.{unchanged}
use Rattle.row_writes.proofs.erasing.erase_all.Goals as goal

pub loop-rowid-init : goal.loop-rowid-init
loop-rowid-init g c = record {
  keeps = Keeps-refl (state c.args.file.now.pool);
  usable = λ ready. ready;
  rows = λ faithful schema wanted roots was now table shows. unchanged c.args.place.now schema wanted roots was now table c.args.file.now c.args.file.now shows shows.writes;
}

pub returns-in_err-erase-clause-keeps : goal.returns-in_err-erase-clause-keeps
returns-in_err-erase-clause-keeps g c = Keeps-trans _ _ _ c.loop-rowid.invariant.keeps c.erase.ensures.leaves.keeps

pub returns-in_err-erase-clause-done : goal.returns-in_err-erase-clause-done
returns-in_err-erase-clause-done g c faithful = λ schema wanted roots was now table shows any.
    let old = c.args.file.now in
    let mid = c.loop-rowid.file in
    let h = c.loop-rowid.invariant.rows (c.erase.ensures.leaves.keeps.stays.clean faithful) schema wanted roots was now table shows in
    let p = err_from_is_err_and c.from_residual.result c.from_residual.ensures.1 in
    rw (p.1, p.2) (changes_later old mid c.erase.new.file ⊤ ⊤ _ c.loop-rowid.invariant.keeps (λ x. x)
    (c.in_err-erase.ensures.done faithful schema wanted roots was h.next table (shows_next old mid shows h) any))

pub loop-rowid-preserved : goal.loop-rowid-preserved
loop-rowid-preserved g c = record {
  keeps = Keeps-trans _ _ _ c.loop-rowid.invariant.keeps c.erase.ensures.leaves.keeps;
  usable = λ ready. c.in_ok-erase.ensures.leaves.usable;
  rows = λ faithful schema wanted roots was now table shows.
      let mid = c.loop-rowid.file in
      let ids = c.args.rowids.now in
      let k = c.loop-rowid.rowid-index in
      let h = c.loop-rowid.invariant.rows (c.erase.ensures.leaves.keeps.stays.clean faithful) schema wanted roots was now table shows in
      let id = get_or ids k (pos 0) in
      let same : to_z w64 (of_z w64 id) ≡ id = search (rules, to_z-of_z) in
      one_erased ids k (pos 0) mid c.erase.new.file c.loop-rowid-test.true h
      (subst (λ n. HasRows schema wanted roots was h.next table (without_rowid n (h.next table.tree)) c.erase.new.file) same
      (c.in_ok-erase.ensures.done faithful schema wanted roots was h.next table (shows_next c.args.file.now mid shows h) tt));
}

pub returns-clause-done : goal.returns-clause-done
returns-clause-done g c faithful = λ schema wanted roots was now table shows any.
    let ids = c.args.rowids.now in
    subst (λ l. HasRows schema wanted roots was now table (without_all (now table.tree) l) c.loop-rowid.file) (take_all c.loop-rowid.rowid-index ids c.loop-rowid-test.false)
    (c.loop-rowid.invariant.rows faithful schema wanted roots was now table shows)
