use Rattle.std.proofs.Common.{◌≡◌, ◌<◌, length, sym, subst, arith}
use Rattle.std.proofs.lemmas.Result.{IfOk-from_err, err_from_is_err_and}
use Rattle.sqlite_pool.specs.Pool.{state}
use Rattle.sqlite_pool.specs.StoredLaws.{Keeps-refl, Keeps-trans}
use Rattle.sqlite_record.specs.Affinity.{widen}
use Rattle.sqlite_record.proofs.AffinityLemmas.{widen-zero}
use Rattle.sqlite_trees.specs.Tree.{insert_entry}
use Rattle.sqlite_trees.specs.View.{IsStorable}
use Rattle.page_files.proofs.Causes.{fails_later}
use Rattle.page_places.specs.Changes.{AreStorable}
use Rattle.page_places.specs.Entries.{with_entries}
use Rattle.page_places.proofs.Filling.{all_edited, next_index, none_edited, not_storable, one_more, refused_fails}
use Rattle.row_writes.proofs.entries.insert_entries.Goals as goal

pub loop-index-init : goal.loop-index-init
loop-index-init g c = none_edited c.args.file.now c.args.indexes.now insert_entry c.args.row.now (Keeps-refl (state c.args.file.now.pool))

pub returns-in_err-make_entry-clause-keeps : goal.returns-in_err-make_entry-clause-keeps
returns-in_err-make_entry-clause-keeps g c = c.loop-index.invariant.keeps

pub returns-in_err-write_record-clause-keeps : goal.returns-in_err-write_record-clause-keeps
returns-in_err-write_record-clause-keeps g c = c.loop-index.invariant.keeps

pub returns-in_err-write_record-clause-done : goal.returns-in_err-write_record-clause-done
returns-in_err-write_record-clause-done g c faithful = λ wanted roots was now indexes w all.
    let row = c.args.row.now in
    let entry = c.make_entry.new.entry in
    let part = c.loop-index.invariant.part faithful wanted roots was now indexes w all in
    let p = err_from_is_err_and c.from_residual-in_err-write_record.result c.from_residual-in_err-write_record.ensures.1 in
    rw (p.1, p.2) (refused_fails c.args.file.now c.loop-index.file (IsStorable 0 entry × (0 < length entry)) (AreStorable row indexes) _
    (not_storable wanted roots was now c.args.indexes.now indexes insert_entry row c.loop-index.index-index c.loop-index.file part _ c.loop-index-test.true entry c.in_ok-make_entry.ensures) c.in_err-write_record.ensures.cause)

pub returns-in_err-insert-clause-keeps : goal.returns-in_err-insert-clause-keeps
returns-in_err-insert-clause-keeps g c = Keeps-trans _ _ _ c.loop-index.invariant.keeps c.insert.ensures.leaves.keeps

pub returns-in_err-insert-clause-done : goal.returns-in_err-insert-clause-done
returns-in_err-insert-clause-done g c faithful = λ wanted roots was now indexes w all.
    let row = c.args.row.now in
    let file = c.loop-index.file in
    let new = c.insert.new.self in
    let part = c.loop-index.invariant.part (c.insert.ensures.leaves.keeps.stays.clean faithful) wanted roots was now indexes w all in
    let n = next_index wanted roots was now c.args.indexes.now indexes insert_entry row c.loop-index.index-index file part _ c.loop-index-test.true in
    let p = err_from_is_err_and c.from_residual-in_err-insert.result c.from_residual-in_err-insert.ensures.1 in
    rw (p.1, p.2) (fails_later c.args.file.now file new _ c.loop-index.invariant.keeps
    (c.in_err-insert.ensures.done faithful wanted roots was (with_entries insert_entry row now part.done) n.0.tree part.writes n.1.at (subst (λ n. widen n c.make_entry.new.entry ≡ c.make_entry.new.entry) (sym n.1.no_reals) (widen-zero c.make_entry.new.entry))))

pub loop-index-preserved : goal.loop-index-preserved
loop-index-preserved g c =
    let row = c.args.row.now in
    let file = c.loop-index.file in
    let new = c.insert.new.self in
    record {
      keeps = Keeps-trans _ _ _ c.loop-index.invariant.keeps c.insert.ensures.leaves.keeps;
      usable = λ ready. c.in_ok-insert.ensures.leaves.usable;
      part = λ faithful wanted roots was now indexes w all.
          let part = c.loop-index.invariant.part (c.insert.ensures.leaves.keeps.stays.clean faithful) wanted roots was now indexes w all in
          one_more wanted roots was now c.args.indexes.now indexes insert_entry row c.loop-index.index-index file part _ c.loop-index-test.true c.make_entry.new.entry new c.in_ok-make_entry.ensures
          (λ i place. c.in_ok-insert.ensures.done faithful wanted roots was (with_entries insert_entry row now part.done) i.tree part.writes place.at (subst (λ n. widen n c.make_entry.new.entry ≡ c.make_entry.new.entry) (sym place.no_reals) (widen-zero c.make_entry.new.entry)));
    }

pub returns-clause-done : goal.returns-clause-done
returns-clause-done g c faithful = λ wanted roots was now indexes w all.
    let part = c.loop-index.invariant.part faithful wanted roots was now indexes w all in
    all_edited wanted roots was now c.args.indexes.now indexes insert_entry c.args.row.now c.loop-index.index-index c.loop-index.file part (omega (arith, c.loop-index.auto.index-index-end, c.loop-index-test.false))

pub returns-clause-usable : goal.returns-clause-usable
returns-clause-usable g c = c.loop-index.invariant.usable

pub returns-clause-keeps : goal.returns-clause-keeps
returns-clause-keeps g c = c.loop-index.invariant.keeps

pub returns-in_err-make_entry-clause-done : goal.returns-in_err-make_entry-clause-done
returns-in_err-make_entry-clause-done g c = λ faithful wanted roots was now indexes w all. let p = err_from_is_err_and c.from_residual.result c.from_residual.ensures.1 in rw (p.1, p.2) tt

pub returns-in_err-make_entry-clause-usable : goal.returns-in_err-make_entry-clause-usable
returns-in_err-make_entry-clause-usable g c = λ usable. IfOk-from_err c.from_residual.result _ c.from_residual.ensures.0

pub returns-in_err-write_record-clause-usable : goal.returns-in_err-write_record-clause-usable
returns-in_err-write_record-clause-usable g c = λ usable. IfOk-from_err c.from_residual-in_err-write_record.result _ c.from_residual-in_err-write_record.ensures.0

pub returns-in_err-insert-clause-usable : goal.returns-in_err-insert-clause-usable
returns-in_err-insert-clause-usable g c = λ usable. IfOk-from_err c.from_residual-in_err-insert.result _ c.from_residual-in_err-insert.ensures.0
