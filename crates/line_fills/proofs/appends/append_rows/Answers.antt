use Rattle.std.proofs.Common.{◌≡◌, ℤ, List, ℕ, ◌+◌, ◌-◌, drop, map, take, ap, arith, subst, ◌∙◌, take_all}
use Rattle.std.specs.Borrow.{Bor}
use Rattle.std.proofs.lemmas.Result.{IfOk-from_err, err_from_is_err_and}
use Rattle.sqlite_pool.specs.Pool.{state}
use Rattle.sqlite_pool.specs.StoredLaws.{Keeps-refl, Keeps-trans}
use Rattle.sqlite_trees.specs.Tree.{put_row}
use Rattle.sqlite_trees.specs.declared.store.Shape.TheVariants.{Table}
use Rattle.page_files.specs.Places.{rows_given}
use Rattle.page_files.specs.Writes.{FailsToWrite}
use Rattle.page_places.proofs.Failing.{memory_fails, pages_fail, store_fails_later}
use Rattle.page_places.proofs.Outcomes.{as_given}
use Rattle.line_fills.specs.Records.{IsWritable}
use Rattle.line_fills.specs.Rows.{numbered}
use Rattle.line_fills.proofs.Cuts.{all_shown}
use Rattle.line_fills.proofs.Failing.{refused_fails}
use Rattle.line_fills.proofs.Parts.{batch_fits, numbered_batch}
use Rattle.line_fills.proofs.Refused.{part_of_all, refused_for}
use Rattle.line_fills.proofs.Steps.{HasPlaced, after_placed, more_placed, none_placed}
use Rattle.line_fills.proofs.appends.append_rows.Goals as goal

pub loop-done-init : goal.loop-done-init
loop-done-init g c = record {
  within = omega arith;
  keeps = Keeps-refl (state c.args.file.now.pool);
  usable = λ ready. ready;
  placed = none_placed Table c.args.root put_row c.args.file.now;
}

pub rows-requires : goal.rows-requires
rows-requires g c =
    batch_fits g.L.PageLine.columns c.args.first c.args.lines.now c.loop-done.done c.min-end.result c.in_ok-records.records c.requires.room
    (omega (arith, c.min-end.ensures, c.loop-done.invariant.within)) (omega (arith, c.min-end.ensures)) c.in_ok-records.ensures.made.rows_are

pub append-requires-clause-short : goal.append-requires-clause-short
append-requires-clause-short g c =
    let all = all_shown (λ (row : ℤ × Bor (List ℕ)). row.1.now) IsWritable c.in_ok-rows.rows.items c.in_ok-records.records c.in_ok-rows.ensures.records c.in_ok-records.ensures.made.writable in
    rw c.as_slice.ensures.value (λ k d low. (all k d low).short)

pub append-requires-clause-strict : goal.append-requires-clause-strict
append-requires-clause-strict g c =
    let all = all_shown (λ (row : ℤ × Bor (List ℕ)). row.1.now) IsWritable c.in_ok-rows.rows.items c.in_ok-records.records c.in_ok-rows.ensures.records c.in_ok-records.ensures.made.writable in
    rw c.as_slice.ensures.value (λ k d low. (all k d low).strict)

pub loop-done-preserved : goal.loop-done-preserved
loop-done-preserved g c =
    let old = c.args.file.now in
    let mid = c.loop-done.file in
    let new = c.append.new.self in
    let done = c.loop-done.done in
    let end = c.min-end.result in
    let root = c.args.root in
    let lines = c.args.lines.now in
    let columns = g.L.PageLine.columns in
    let front = numbered c.args.first (map columns (take done lines)) in
    let more = numbered (c.args.first + done) (map columns (take (end - done) (drop done lines))) in
    let rows : rows_given c.as_slice.result.now ≡ more =
    ap rows_given c.as_slice.ensures.value ∙ c.in_ok-rows.ensures.rows ∙ ap (numbered (c.args.first + done)) c.in_ok-records.ensures.made.rows_are in
    let batch : HasPlaced Table root put_row mid new more = subst (HasPlaced Table root put_row mid new) rows
    (λ faithful wanted roots was now t w is plain. c.in-Ok.ensures.done faithful wanted roots was now t w is (λ k d low. as_given wanted t _ plain)) in
    record {
      within = omega (arith, c.min-end.ensures);
      keeps = Keeps-trans _ _ _ c.loop-done.invariant.keeps c.append.ensures.leaves.keeps;
      usable = λ ready. c.in-Ok.ensures.leaves.usable;
      placed = subst (HasPlaced Table root put_row old new)
          (numbered_batch columns c.args.first lines done end (omega (arith, c.min-end.ensures, c.loop-done.invariant.within)) (omega (arith, c.min-end.ensures)))
          (more_placed Table root put_row old mid new c.append.ensures.leaves.keeps front c.loop-done.invariant.placed more batch);
    }

pub returns-clause-done : goal.returns-clause-done
returns-clause-done g c =
    subst (λ lines. HasPlaced Table c.args.root put_row c.args.file.now c.loop-done.file (numbered c.args.first (map g.L.PageLine.columns lines)))
    (take_all c.loop-done.done c.args.lines.now (omega (arith, c.loop-done-test.false))) c.loop-done.invariant.placed

pub returns-in_err-records-clause-done : goal.returns-in_err-records-clause-done
returns-in_err-records-clause-done g c faithful = λ wanted roots was now t w is plain.
    let done = c.loop-done.done in
    let p = err_from_is_err_and c.from_residual.result c.from_residual.ensures.1 in
    rw (p.1, p.2) (refused_fails c.args.file.now c.loop-done.file _
    (refused_for _ (part_of_all g.L.PageLine.columns c.args.lines.now (c.min-end.result - done) done) c.in_err-records.ensures.refused))

pub returns-in_err-rows-clause-done : goal.returns-in_err-rows-clause-done
returns-in_err-rows-clause-done g c faithful = λ wanted roots was now t w is plain.
    let p = err_from_is_err_and c.from_residual-in_err-rows.result c.from_residual-in_err-rows.ensures.1 in
    rw p.1 (memory_fails c.args.file.now c.loop-done.file p.0 p.2)

pub returns-in-Err-clause-done : goal.returns-in-Err-clause-done
returns-in-Err-clause-done g c faithful = λ wanted roots was now t w is plain.
    let old = c.args.file.now in
    let mid = c.loop-done.file in
    let new = c.append.new.self in
    let front = numbered c.args.first (map g.L.PageLine.columns (take c.loop-done.done c.args.lines.now)) in
    let fails = after_placed Table c.args.root put_row old mid new c.append.ensures.leaves.keeps front c.loop-done.invariant.placed (FailsToWrite mid new c.in-Err.error)
    (λ faithful wanted roots was now t w is plain. c.in-Err.ensures.done faithful wanted roots was now t w is (λ k d low. as_given wanted t _ plain)) in
    store_fails_later old mid new _ c.loop-done.invariant.keeps (λ can. can) (pages_fail mid new c.in-Err.error _ c.error_of.ensures (fails faithful wanted roots was now t w is plain))

pub returns-in_err-records-clause-keeps : goal.returns-in_err-records-clause-keeps
returns-in_err-records-clause-keeps g c = c.loop-done.invariant.keeps

pub returns-in_err-rows-clause-keeps : goal.returns-in_err-rows-clause-keeps
returns-in_err-rows-clause-keeps g c = c.loop-done.invariant.keeps

pub returns-in-Err-clause-keeps : goal.returns-in-Err-clause-keeps
returns-in-Err-clause-keeps g c = Keeps-trans _ _ _ c.loop-done.invariant.keeps c.append.ensures.leaves.keeps

pub returns-clause-keeps : goal.returns-clause-keeps
returns-clause-keeps g c = c.loop-done.invariant.keeps

pub returns-in_err-records-clause-usable : goal.returns-in_err-records-clause-usable
returns-in_err-records-clause-usable g c = λ usable. IfOk-from_err c.from_residual.result _ c.from_residual.ensures.0

pub returns-in_err-rows-clause-usable : goal.returns-in_err-rows-clause-usable
returns-in_err-rows-clause-usable g c = λ usable. IfOk-from_err c.from_residual-in_err-rows.result _ c.from_residual-in_err-rows.ensures.0

pub returns-in-Err-clause-usable : goal.returns-in-Err-clause-usable
returns-in-Err-clause-usable g c = λ usable. tt

pub returns-clause-usable : goal.returns-clause-usable
returns-clause-usable g c = c.loop-done.invariant.usable
