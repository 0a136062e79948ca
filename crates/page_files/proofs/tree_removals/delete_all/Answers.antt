use Rattle.std.proofs.Common.{◌≡◌, ◌-◌, ◌+◌, ℕ, ◌++◌, Ok, Err, Result, length, take, drop, sym, ap, ◌∙◌, arith, take_all, length-drop}
use Rattle.std.proofs.lemmas.Result.{err_from_is_err_and}
use Rattle.sqlite_pages.specs.declared.error.Error.{Error}
use Rattle.sqlite_btree.proofs.Results.{steps_on, steps_none}
use Rattle.sqlite_store.specs.Db.{Edits}
use Rattle.page_files.specs.Removals.{without_rowids}
use Rattle.page_files.proofs.Placing.{edits_as, edits_twice, range_to_end, take_more_of, edits_none}
use Rattle.page_files.proofs.Thinning.{part_next, without_rowids-append}
use Rattle.page_files.proofs.tree_removals.delete_all.Goals as goal

pub returns-in_err-done-clause-done : goal.returns-in_err-done-clause-done
returns-in_err-done-clause-done g c = λ clean schema t db names.
    let ids = c.args.rowids.now in
    let d = c.loop-done.done in
    let rest = take (length ids - d) (drop d ids) in
    let edits = c.loop-done.invariant.thinned (omega (arith, clean, c.delete_some.ensures.kept.clean)) schema t db names in
    let p = err_from_is_err_and c.from_residual.result c.from_residual.ensures.1 in
    let failed : Result ℕ Error = Err c.in_err-done.field-0.0 in
    rw (p.1, p.2) (part_next g.P.Pages c.delete_some.new.store c.loop-done.invariant.kept names clean g.met.P.Pages.follows_trans (without_rowids (take d ids)) edits
    (λ size schema before after t (n : ℕ). Edits size schema before after t (without_rowids (take n rest))) failed c.in_err-done.ensures.done)

pub loop-done-preserved : goal.loop-done-preserved
loop-done-preserved g c =
    let ids = c.args.rowids.now in
    let d = c.loop-done.done in
    let n = c.in_ok-done.field-0 in
    let rest = take (length ids - d) (drop d ids) in
    let all : take d ids ++ take n rest ≡ take (d + n) ids = ap (λ l. take d ids ++ take n l) (range_to_end ids d) ∙ take_more_of ids d n in
    record {
      within = omega (arith, c.loop-done.invariant.within, c.in_ok-done.ensures.within);
      kept = steps_on g.met.P.Pages.follows_trans c.loop-done.invariant.kept c.delete_some.ensures.kept;
      thinned = λ clean schema t db names.
          let edits = c.loop-done.invariant.thinned (omega (arith, clean, c.delete_some.ensures.kept.clean)) schema t db names in
          let done : Result ℕ Error = Ok n in
          edits_as (λ rows. sym (without_rowids-append (take d ids) (take n rest) rows) ∙ ap (λ l. without_rowids l rows) all)
          (edits_twice edits (part_next g.P.Pages c.delete_some.new.store c.loop-done.invariant.kept names clean g.met.P.Pages.follows_trans (without_rowids (take d ids)) edits
          (λ size schema before after t (n : ℕ). Edits size schema before after t (without_rowids (take n rest))) done c.in_ok-done.ensures.done));
    }

pub returns-clause-done : goal.returns-clause-done
returns-clause-done g c = λ clean schema t db names.
    let ids = c.args.rowids.now in
    let edits = c.loop-done.invariant.thinned clean schema t db names in
    edits_as (λ rows. ap (λ l. without_rowids l rows) (take_all c.loop-done.done ids (omega (arith, c.loop-done-test.false)))) edits

pub loop-done-init : goal.loop-done-init
loop-done-init g c =
    record {
      within = omega arith;
      kept = steps_none g.met.P.Pages.follows_refl;
      thinned = λ clean schema t db names. edits_none db;
    }

pub delete_some-requires : goal.delete_some-requires
delete_some-requires g c =
    let d = c.loop-done.done in
    omega (arith, c.loop-done-test.true, ap length (range_to_end c.args.rowids.now d), length-drop d c.args.rowids.now)

pub returns-in_err-done-clause-kept : goal.returns-in_err-done-clause-kept
returns-in_err-done-clause-kept g c = steps_on g.met.P.Pages.follows_trans c.loop-done.invariant.kept c.delete_some.ensures.kept

pub returns-clause-kept : goal.returns-clause-kept
returns-clause-kept g c = c.loop-done.invariant.kept
