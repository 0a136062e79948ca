use Rattle.std.proofs.Common.{◌-◌, ◌<◌, List, ℕ, drop, length, map, take, ap, arith, subst, ◌∙◌, take_all}
use Rattle.std.specs.Borrow.{Bor}
use Rattle.std.proofs.lemmas.List.Elements.{All-drop, All-take}
use Rattle.std.proofs.lemmas.Result.{IfOk-from_err, err_from_is_err_and}
use Rattle.sqlite_pool.specs.Pool.{state}
use Rattle.sqlite_pool.specs.StoredLaws.{Keeps-refl, Keeps-trans}
use Rattle.sqlite_sql.specs.Catalog.{entry_of}
use Rattle.sqlite_trees.specs.Tree.{insert_entry}
use Rattle.sqlite_trees.specs.declared.store.Shape.TheVariants.{Index}
use Rattle.sqlite_value.specs.Keys.{plain}
use Rattle.page_files.specs.Places.{entries_given}
use Rattle.page_files.specs.Writes.{FailsToWrite}
use Rattle.page_places.proofs.Failing.{memory_fails, pages_fail, store_fails_later}
use Rattle.line_fills.specs.Records.{IsWritable}
use Rattle.line_fills.specs.Rows.{entries_at, row_at}
use Rattle.line_fills.proofs.Cuts.{all_shown, entries_shown}
use Rattle.line_fills.proofs.Failing.{refused_fails}
use Rattle.line_fills.proofs.Parts.{entries_batch}
use Rattle.line_fills.proofs.Refused.{part_of_all, refused_for}
use Rattle.line_fills.proofs.Steps.{HasPlaced, after_placed, entry_as_given, more_placed, none_placed}
use Rattle.line_fills.proofs.appends.insert_entries.Goals as goal

pub loop-done-init : goal.loop-done-init
loop-done-init g c = record {
  within = omega arith;
  keeps = Keeps-refl (state c.args.file.now.pool);
  usable = λ ready. ready;
  placed = none_placed (Index plain) c.args.index.now.root (insert_entry plain) c.args.file.now;
}

pub entry_records-requires-clause-within : goal.entry_records-requires-clause-within
entry_records-requires-clause-within g c =
    let done = c.loop-done.done in
    let places = c.args.places.now in
    let inside = λ (place : ℕ). place < length c.args.lines.now in
    All-take inside (c.min-end.result - done) (drop done places) (All-drop inside done places c.requires.within)

pub append_entries-requires-clause-short : goal.append_entries-requires-clause-short
append_entries-requires-clause-short g c =
    let all = all_shown (λ (entry : Bor (List ℕ)). entry.now) IsWritable c.in_ok-entries.entries.items c.in_ok-records.records c.in_ok-entries.ensures c.in_ok-records.ensures.made.writable in
    rw c.as_slice.ensures.value (λ k d low. (all k d low).short)

pub append_entries-requires-clause-strict : goal.append_entries-requires-clause-strict
append_entries-requires-clause-strict g c =
    let all = all_shown (λ (entry : Bor (List ℕ)). entry.now) IsWritable c.in_ok-entries.entries.items c.in_ok-records.records c.in_ok-entries.ensures c.in_ok-records.ensures.made.writable in
    rw c.as_slice.ensures.value (λ k d low. (all k d low).strict)

pub loop-done-preserved : goal.loop-done-preserved
loop-done-preserved g c =
    let old = c.args.file.now in
    let mid = c.loop-done.file in
    let new = c.append_entries.new.self in
    let done = c.loop-done.done in
    let end = c.min-end.result in
    let index = c.args.index.now in
    let lines = map g.L.PageLine.columns c.args.lines.now in
    let places = c.args.places.now in
    let front = entries_at index.columns.now c.args.first lines (take done places) in
    let more = entries_at index.columns.now c.args.first lines (take (end - done) (drop done places)) in
    let entries = ap entries_given c.as_slice.ensures.value ∙ entries_shown c.in_ok-entries.entries.items c.in_ok-records.records more c.in_ok-entries.ensures c.in_ok-records.ensures.made.rows_are in
    let batch : HasPlaced (Index plain) index.root (insert_entry plain) mid new more = subst (HasPlaced (Index plain) index.root (insert_entry plain) mid new) entries
    (λ faithful wanted roots was now t w is none. c.in-Ok.ensures.done faithful wanted roots was now t w is (λ k d low. entry_as_given wanted t _ none)) in
    record {
      within = omega (arith, c.min-end.ensures);
      keeps = Keeps-trans _ _ _ c.loop-done.invariant.keeps c.append_entries.ensures.leaves.keeps;
      usable = λ ready. c.in-Ok.ensures.leaves.usable;
      placed = subst (HasPlaced (Index plain) index.root (insert_entry plain) old new)
          (entries_batch index.columns.now c.args.first lines places done end (omega (arith, c.min-end.ensures, c.loop-done.invariant.within)))
          (more_placed (Index plain) index.root (insert_entry plain) old mid new c.append_entries.ensures.leaves.keeps front c.loop-done.invariant.placed more batch);
    }

pub returns-clause-done : goal.returns-clause-done
returns-clause-done g c =
    let index = c.args.index.now in
    subst (λ places. HasPlaced (Index plain) index.root (insert_entry plain) c.args.file.now c.loop-done.file (entries_at index.columns.now c.args.first (map g.L.PageLine.columns c.args.lines.now) places))
    (take_all c.loop-done.done c.args.places.now (omega (arith, c.loop-done-test.false))) c.loop-done.invariant.placed

pub returns-in_err-records-clause-done : goal.returns-in_err-records-clause-done
returns-in_err-records-clause-done g c faithful = λ wanted roots was now t w is none.
    let done = c.loop-done.done in
    let lines = map g.L.PageLine.columns c.args.lines.now in
    let entry = λ (place : ℕ). entry_of c.args.index.now.columns.now (row_at c.args.first lines place) in
    let p = err_from_is_err_and c.from_residual.result c.from_residual.ensures.1 in
    rw (p.1, p.2) (refused_fails c.args.file.now c.loop-done.file _
    (refused_for _ (part_of_all entry c.args.places.now (c.min-end.result - done) done) c.in_err-records.ensures.refused))

pub returns-in_err-entries-clause-done : goal.returns-in_err-entries-clause-done
returns-in_err-entries-clause-done g c faithful = λ wanted roots was now t w is none.
    let p = err_from_is_err_and c.from_residual-in_err-entries.result c.from_residual-in_err-entries.ensures.1 in
    rw p.1 (memory_fails c.args.file.now c.loop-done.file p.0 p.2)

pub returns-in-Err-clause-done : goal.returns-in-Err-clause-done
returns-in-Err-clause-done g c faithful = λ wanted roots was now t w is none.
    let old = c.args.file.now in
    let mid = c.loop-done.file in
    let new = c.append_entries.new.self in
    let index = c.args.index.now in
    let front = entries_at index.columns.now c.args.first (map g.L.PageLine.columns c.args.lines.now) (take c.loop-done.done c.args.places.now) in
    let fails = after_placed (Index plain) index.root (insert_entry plain) old mid new c.append_entries.ensures.leaves.keeps front c.loop-done.invariant.placed (FailsToWrite mid new c.in-Err.error)
    (λ faithful wanted roots was now t w is none. c.in-Err.ensures.done faithful wanted roots was now t w is (λ k d low. entry_as_given wanted t _ none)) in
    store_fails_later old mid new _ c.loop-done.invariant.keeps (λ can. can) (pages_fail mid new c.in-Err.error _ c.error_of.ensures (fails faithful wanted roots was now t w is none))

pub returns-in_err-records-clause-keeps : goal.returns-in_err-records-clause-keeps
returns-in_err-records-clause-keeps g c = c.loop-done.invariant.keeps

pub returns-in_err-entries-clause-keeps : goal.returns-in_err-entries-clause-keeps
returns-in_err-entries-clause-keeps g c = c.loop-done.invariant.keeps

pub returns-in-Err-clause-keeps : goal.returns-in-Err-clause-keeps
returns-in-Err-clause-keeps g c = Keeps-trans _ _ _ c.loop-done.invariant.keeps c.append_entries.ensures.leaves.keeps

pub returns-clause-keeps : goal.returns-clause-keeps
returns-clause-keeps g c = c.loop-done.invariant.keeps

pub returns-in_err-records-clause-usable : goal.returns-in_err-records-clause-usable
returns-in_err-records-clause-usable g c = λ usable. IfOk-from_err c.from_residual.result _ c.from_residual.ensures.0

pub returns-in_err-entries-clause-usable : goal.returns-in_err-entries-clause-usable
returns-in_err-entries-clause-usable g c = λ usable. IfOk-from_err c.from_residual-in_err-entries.result _ c.from_residual-in_err-entries.ensures.0

pub returns-in-Err-clause-usable : goal.returns-in-Err-clause-usable
returns-in-Err-clause-usable g c = λ usable. tt

pub returns-clause-usable : goal.returns-clause-usable
returns-clause-usable g c = c.loop-done.invariant.usable
