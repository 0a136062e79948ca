use Rattle.std.proofs.Common.{rules, ◌≡◌, pos, ◌+◌, drop, get_or, subst, to_z-of_z, to_z, of_z, w64}
use Rattle.std.proofs.lemmas.List.{drop_all, drop_more}
use Rattle.sqlite_pool.specs.Pool.{state}
use Rattle.sqlite_pool.specs.StoredLaws.{Keeps-refl, Keeps-trans}
use Rattle.page_changes.specs.Removed.{HasCleared}
use Rattle.page_changes.proofs.Clearing.{all_cleared, IsClearing, none_cleared, one_cleared, shows_clearing}
use Rattle.page_changes.proofs.baselines.clear_all.Goals as goal

pub loop-rowid-init : goal.loop-rowid-init
loop-rowid-init g c = record {
  keeps = Keeps-refl (state c.args.file.now.pool);
  usable = λ ready. ready;
  groups = λ faithful wanted known was now t holds shows sought. none_cleared c.args.run t wanted known was now c.args.rowids.now c.args.file.now shows.writes holds sought;
}

pub returns-in_err-clear_one-clause-keeps : goal.returns-in_err-clear_one-clause-keeps
returns-in_err-clear_one-clause-keeps g c = Keeps-trans _ _ _ c.loop-rowid.invariant.keeps c.clear_one.ensures.leaves.keeps

pub loop-rowid-preserved : goal.loop-rowid-preserved
loop-rowid-preserved g c = record {
  keeps = Keeps-trans _ _ _ c.loop-rowid.invariant.keeps c.clear_one.ensures.leaves.keeps;
  usable = λ ready. c.in_ok-clear_one.ensures.leaves.usable;
  groups = λ faithful wanted known was now t holds shows sought.
      let n = c.args.run in
      let mid = c.loop-rowid.file in
      let new = c.clear_one.new.file in
      let ids = c.args.rowids.now in
      let k = c.loop-rowid.rowid-index in
      let d = c.loop-rowid.invariant.groups (c.clear_one.ensures.leaves.keeps.stays.clean faithful) wanted known was now t holds shows sought in
      let id = get_or ids k (pos 0) in
      let same : to_z w64 (of_z w64 id) ≡ id = search (rules, to_z-of_z) in
      let more = subst (λ l. IsClearing n t wanted known was l mid) (drop_more ids k (pos 0) c.loop-rowid-test.true) d in
      let one = c.in_ok-clear_one.ensures.done faithful wanted known was more.next _ more.holds (shows_clearing n t wanted known was c.args.place.now now _ c.args.file.now mid shows more) in
      one_cleared n t wanted known was id (drop (k + 1) ids) mid new more (subst (λ i. HasCleared mid new wanted known was more.next i n) same one);
}

pub returns-clause-done : goal.returns-clause-done
returns-clause-done g c faithful = λ wanted known was now t holds shows sought.
    let ids = c.args.rowids.now in
    let d = c.loop-rowid.invariant.groups faithful wanted known was now t holds shows sought in
    all_cleared c.args.run t wanted known was c.loop-rowid.file (subst (λ l. IsClearing c.args.run t wanted known was l c.loop-rowid.file) (drop_all c.loop-rowid.rowid-index ids c.loop-rowid-test.false) d)
