use Rattle.std.proofs.Common.{[], refl, arith}
use Rattle.std.proofs.lemmas.Result.{err_from_is_err_and}
use Rattle.sqlite_pool.specs.Pool.{state}
use Rattle.sqlite_pool.specs.StoredLaws.{Keeps-refl, Keeps-trans}
use Rattle.page_files.proofs.Causes.{fails_later}
use Rattle.page_places.specs.Entries.{with_entries}
use Rattle.row_writes.specs.Under.{out_under}
use Rattle.page_places.proofs.Filling.{all_edited, next_index, none_edited, one_more}
use Rattle.row_writes.proofs.under.remove_all_under.Goals as goal

pub loop-index-init : goal.loop-index-init
loop-index-init g c = none_edited c.args.file.now c.args.indexes.now (out_under c.args.prefix.now) [] (Keeps-refl (state c.args.file.now.pool))

pub returns-in_err-remove_under-clause-keeps : goal.returns-in_err-remove_under-clause-keeps
returns-in_err-remove_under-clause-keeps g c = Keeps-trans _ _ _ c.loop-index.invariant.keeps c.remove_under.ensures.leaves.keeps

pub returns-in_err-remove_under-clause-done : goal.returns-in_err-remove_under-clause-done
returns-in_err-remove_under-clause-done g c faithful = λ wanted roots was now indexes w all.
    let edit = out_under c.args.prefix.now in
    let file = c.loop-index.file in
    let new = c.remove_under.new.self in
    let part = c.loop-index.invariant.part (c.remove_under.ensures.leaves.keeps.stays.clean faithful) wanted roots was now indexes w all in
    let n = next_index wanted roots was now c.args.indexes.now indexes edit [] c.loop-index.index-index file part _ c.loop-index-test.true in
    let p = err_from_is_err_and c.from_residual.result c.from_residual.ensures.1 in
    rw (p.1, p.2) (fails_later c.args.file.now file new _ c.loop-index.invariant.keeps
    (c.in_err-remove_under.ensures.done faithful wanted roots was (with_entries edit [] now part.done) n.0.tree part.writes n.1.at))

pub loop-index-preserved : goal.loop-index-preserved
loop-index-preserved g c =
    let edit = out_under c.args.prefix.now in
    let file = c.loop-index.file in
    let new = c.remove_under.new.self in
    record {
      keeps = Keeps-trans _ _ _ c.loop-index.invariant.keeps c.remove_under.ensures.leaves.keeps;
      usable = λ ready. c.in_ok-remove_under.ensures.leaves.usable;
      part = λ faithful wanted roots was now indexes w all.
          let part = c.loop-index.invariant.part (c.remove_under.ensures.leaves.keeps.stays.clean faithful) wanted roots was now indexes w all in
          one_more wanted roots was now c.args.indexes.now indexes edit [] c.loop-index.index-index file part _ c.loop-index-test.true _ new refl
          (λ i place. c.in_ok-remove_under.ensures.done faithful wanted roots was (with_entries edit [] now part.done) i.tree part.writes place.at);
    }

pub returns-clause-done : goal.returns-clause-done
returns-clause-done g c faithful = λ wanted roots was now indexes w all.
    let part = c.loop-index.invariant.part faithful wanted roots was now indexes w all in
    all_edited wanted roots was now c.args.indexes.now indexes (out_under c.args.prefix.now) [] c.loop-index.index-index c.loop-index.file part (omega (arith, c.loop-index.auto.index-index-end, c.loop-index-test.false))

pub returns-clause-usable : goal.returns-clause-usable
returns-clause-usable g c = c.loop-index.invariant.usable

pub returns-clause-keeps : goal.returns-clause-keeps
returns-clause-keeps g c = c.loop-index.invariant.keeps
