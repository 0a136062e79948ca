use Rattle.std.proofs.Common.{arith}
use Rattle.std.proofs.lemmas.Result.{err_from_is_err_and}
use Rattle.sqlite_pool.specs.Pool.{state}
use Rattle.sqlite_pool.specs.StoredLaws.{Keeps-refl, Keeps-trans}
use Rattle.sqlite_trees.specs.Tree.{remove_entry}
use Rattle.page_files.proofs.Causes.{fails_later}
use Rattle.page_places.specs.Entries.{with_entries}
use Rattle.page_places.proofs.Filling.{all_edited, next_index, none_edited, one_more}
use Rattle.row_writes.proofs.entries.remove_entries.Goals as goal

pub loop-index-init : goal.loop-index-init
loop-index-init g c = none_edited c.args.file.now c.args.indexes.now remove_entry c.args.row.now (Keeps-refl (state c.args.file.now.pool))

pub returns-in_err-make_entry-clause-keeps : goal.returns-in_err-make_entry-clause-keeps
returns-in_err-make_entry-clause-keeps g c = c.loop-index.invariant.keeps

pub returns-in_err-remove-clause-keeps : goal.returns-in_err-remove-clause-keeps
returns-in_err-remove-clause-keeps g c = Keeps-trans _ _ _ c.loop-index.invariant.keeps c.remove.ensures.leaves.keeps

pub returns-in_err-remove-clause-done : goal.returns-in_err-remove-clause-done
returns-in_err-remove-clause-done g c faithful = λ wanted roots was now indexes w all.
    let row = c.args.row.now in
    let file = c.loop-index.file in
    let new = c.remove.new.self in
    let part = c.loop-index.invariant.part (c.remove.ensures.leaves.keeps.stays.clean faithful) wanted roots was now indexes w all in
    let n = next_index wanted roots was now c.args.indexes.now indexes remove_entry row c.loop-index.index-index file part _ c.loop-index-test.true in
    let p = err_from_is_err_and c.from_residual-in_err-remove.result c.from_residual-in_err-remove.ensures.1 in
    rw (p.1, p.2) (fails_later c.args.file.now file new _ c.loop-index.invariant.keeps
    (c.in_err-remove.ensures.done faithful wanted roots was (with_entries remove_entry row now part.done) n.0.tree part.writes n.1.at))

pub loop-index-preserved : goal.loop-index-preserved
loop-index-preserved g c =
    let row = c.args.row.now in
    let file = c.loop-index.file in
    let new = c.remove.new.self in
    record {
      keeps = Keeps-trans _ _ _ c.loop-index.invariant.keeps c.remove.ensures.leaves.keeps;
      usable = λ ready. c.in_ok-remove.ensures.leaves.usable;
      part = λ faithful wanted roots was now indexes w all.
          let part = c.loop-index.invariant.part (c.remove.ensures.leaves.keeps.stays.clean faithful) wanted roots was now indexes w all in
          one_more wanted roots was now c.args.indexes.now indexes remove_entry row c.loop-index.index-index file part _ c.loop-index-test.true c.make_entry.new.entry new c.in_ok-make_entry.ensures
          (λ i place. c.in_ok-remove.ensures.done faithful wanted roots was (with_entries remove_entry row now part.done) i.tree part.writes place.at);
    }

pub returns-clause-done : goal.returns-clause-done
returns-clause-done g c faithful = λ wanted roots was now indexes w all.
    let part = c.loop-index.invariant.part faithful wanted roots was now indexes w all in
    all_edited wanted roots was now c.args.indexes.now indexes remove_entry c.args.row.now c.loop-index.index-index c.loop-index.file part (omega (arith, c.loop-index.auto.index-index-end, c.loop-index-test.false))

pub returns-clause-usable : goal.returns-clause-usable
returns-clause-usable g c = c.loop-index.invariant.usable

pub returns-clause-keeps : goal.returns-clause-keeps
returns-clause-keeps g c = c.loop-index.invariant.keeps
