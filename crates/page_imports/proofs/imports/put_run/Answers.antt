use Rattle.std.proofs.Common.{inr, refl, sym, ◌∙◌}
use Rattle.std.proofs.lemmas.Bool.{true≢false}
use Rattle.std.proofs.lemmas.Result.{IfOk-from_err}
use Rattle.cost_rows.specs.Rows.{content_of}
use Rattle.run_stores.specs.BookRuns.{filed}
use Rattle.sqlite_pool.specs.StoredLaws.{Keeps-refl, Keeps-trans}
use Rattle.page_imports.specs.Causes.{CanImport}
use Rattle.page_imports.proofs.Failing.{fails_for}
use Rattle.page_imports.proofs.Filing.{rows_then}
use Rattle.page_imports.proofs.Results.{at_err, err_on, if_err, on_any, when_ok}
use Rattle.page_imports.proofs.Runs.{none_reached}
use Rattle.page_imports.proofs.imports.put_run.Goals as goal
use Rattle.page_imports.proofs.imports.put_run.Goals.{then-is_reached-via-then-is_reached, then-is_reached-via-else-is_reached+then-not-is_next}

pub returns-then-is_reached-clause-failed : goal.returns-then-is_reached-clause-failed
returns-then-is_reached-clause-failed g c clean = λ wanted known db t rests holds listed.
    inr (
      refl,
      λ (can : CanImport c.args.number c.args.kind c.args.digest.now c.args.label.now c.args.summed.now t db). elim c.then-is_reached.branch [
        | then-is_reached-via-then-is_reached w ↦
            true≢false (sym w.if-is_reached.true ∙ c.is_reached.ensures ∙ none_reached t c.args.lists.now c.args.number listed holds.below can.is_new.next)
        | then-is_reached-via-else-is_reached+then-not-is_next w ↦ w.is_next.ensures.refused t listed w.if-not-is_next.true can.is_new
      ],
    )

pub returns-in_err-roots-clause-failed : goal.returns-in_err-roots-clause-failed
returns-in_err-roots-clause-failed g c =
    err_on c.from_residual.result _ _ _ c.from_residual.ensures.1
    (λ clean wanted known db t rests holds listed. c.in_err-roots.ensures.done clean wanted known db t rests holds (c.if-not-is_next.ensures.told t listed refl))

pub returns-clause-done : goal.returns-clause-done
returns-clause-done g c clean = λ wanted known db t rests holds listed.
    let old = c.args.file.now in
    let mid = c.put_beginning.new.file in
    let last = c.put_rows.new.file in
    let summed = c.args.summed.now in
    let f = filed c.args.number c.args.kind c.args.digest.now c.args.label.now summed.head.now (content_of summed.rows.now) in
    let new = c.if-not-is_next.ensures.told t listed refl in
    let begun = c.in_ok-roots.ensures.done (c.put_rows.ensures.leaves.keeps.stays.clean clean) wanted known db t rests holds new in
    when_ok c.put_rows.result _ _ (rows_then old mid last f c.in_ok-roots.roots c.put_rows.result c.put_beginning.ensures.leaves.keeps c.put_rows.ensures.done clean wanted known db t holds new begun)

pub returns-clause-failed : goal.returns-clause-failed
returns-clause-failed g c =
    if_err c.put_rows.result _ (λ e is clean wanted known db t rests holds listed.
    let old = c.args.file.now in
    let mid = c.put_beginning.new.file in
    let last = c.put_rows.new.file in
    let summed = c.args.summed.now in
    let f = filed c.args.number c.args.kind c.args.digest.now c.args.label.now summed.head.now (content_of summed.rows.now) in
    let new = c.if-not-is_next.ensures.told t listed refl in
    let begun = c.in_ok-roots.ensures.done (c.put_rows.ensures.leaves.keeps.stays.clean clean) wanted known db t rests holds new in
    fails_for old last e (λ (can : CanImport c.args.number c.args.kind c.args.digest.now c.args.label.now summed t db). can.lines)
    (at_err c.put_rows.result _ _ e is (rows_then old mid last f c.in_ok-roots.roots c.put_rows.result c.put_beginning.ensures.leaves.keeps c.put_rows.ensures.done clean wanted known db t holds new begun)))

pub returns-clause-is_new : goal.returns-clause-is_new
returns-clause-is_new g c = λ t listed. on_any c.put_rows.result (c.if-not-is_next.ensures.told t listed refl)

pub returns-clause-complete : goal.returns-clause-complete
returns-clause-complete g c = on_any c.put_rows.result c.in_ok-roots.ensures.complete

pub returns-clause-fits : goal.returns-clause-fits
returns-clause-fits g c = on_any c.put_rows.result c.in_ok-roots.ensures.fits

pub returns-clause-counted : goal.returns-clause-counted
returns-clause-counted g c = on_any c.put_rows.result c.in_ok-roots.ensures.counted

pub returns-clause-leaves : goal.returns-clause-leaves
returns-clause-leaves g c = record { usable = c.put_rows.ensures.leaves.usable; keeps = Keeps-trans _ _ _ c.put_beginning.ensures.leaves.keeps c.put_rows.ensures.leaves.keeps }

pub returns-in_err-roots-clause-done : goal.returns-in_err-roots-clause-done
returns-in_err-roots-clause-done g c clean = λ wanted known db t rests holds listed. IfOk-from_err c.from_residual.result _ c.from_residual.ensures.0

pub returns-in_err-roots-clause-is_new : goal.returns-in_err-roots-clause-is_new
returns-in_err-roots-clause-is_new g c = λ t listed. IfOk-from_err c.from_residual.result _ c.from_residual.ensures.0

pub returns-in_err-roots-clause-complete : goal.returns-in_err-roots-clause-complete
returns-in_err-roots-clause-complete g c = IfOk-from_err c.from_residual.result _ c.from_residual.ensures.0

pub returns-in_err-roots-clause-fits : goal.returns-in_err-roots-clause-fits
returns-in_err-roots-clause-fits g c = IfOk-from_err c.from_residual.result _ c.from_residual.ensures.0

pub returns-in_err-roots-clause-counted : goal.returns-in_err-roots-clause-counted
returns-in_err-roots-clause-counted g c = IfOk-from_err c.from_residual.result _ c.from_residual.ensures.0

pub returns-in_err-roots-clause-leaves : goal.returns-in_err-roots-clause-leaves
returns-in_err-roots-clause-leaves g c = record { usable = IfOk-from_err c.from_residual.result _ c.from_residual.ensures.0; keeps = c.put_beginning.ensures.leaves.keeps }

pub returns-then-is_reached-clause-done : goal.returns-then-is_reached-clause-done
returns-then-is_reached-clause-done g c = λ clean wanted known db t rests holds listed. tt

pub returns-then-is_reached-clause-is_new : goal.returns-then-is_reached-clause-is_new
returns-then-is_reached-clause-is_new g c = λ t listed. tt

pub returns-then-is_reached-clause-complete : goal.returns-then-is_reached-clause-complete
returns-then-is_reached-clause-complete g c = tt

pub returns-then-is_reached-clause-fits : goal.returns-then-is_reached-clause-fits
returns-then-is_reached-clause-fits g c = tt

pub returns-then-is_reached-clause-counted : goal.returns-then-is_reached-clause-counted
returns-then-is_reached-clause-counted g c = tt

pub returns-then-is_reached-clause-leaves : goal.returns-then-is_reached-clause-leaves
returns-then-is_reached-clause-leaves g c = record { usable = tt; keeps = Keeps-refl _ }
