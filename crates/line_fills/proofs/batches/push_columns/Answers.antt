use Rattle.std.proofs.Common.{[], ◌∷◌, ◌++◌, take, arith, sym, ap, subst, ◌∙◌, take_all}
use Rattle.std.proofs.lemmas.List.{take_more}
use Rattle.std.proofs.lemmas.Result.{IfOk-from_err, err_from_is_err_and}
use Rattle.sqlite_value.specs.declared.value.Value.TheVariants.{Null}
use Rattle.line_fills.specs.Written.{HasValues}
use Rattle.line_fills.specs.Causes.{IsShort}
use Rattle.line_fills.proofs.Refused.{refused_for, value_short}
use Rattle.line_fills.proofs.batches.push_columns.Goals as goal

pub loop-at-preserved : goal.loop-at-preserved
loop-at-preserved g c =
    let row = g.L.PageLine.columns c.args.line.now in
    let at = c.loop-at.at in
    subst (HasValues c.push.new.self) (ap (λ v. take at row ++ v ∷ []) c.value.ensures ∙ sym (take_more row at Null (omega (arith, c.loop-at-test.true, c.width-at-end.ensures))))
    (c.in_ok-push.ensures.taken (take at row) c.loop-at.invariant)

pub returns-clause-taken : goal.returns-clause-taken
returns-clause-taken g c = subst (HasValues c.loop-at.encoder) (take_all c.loop-at.at (g.L.PageLine.columns c.args.line.now) (omega (arith, c.loop-at-test.false, c.width-at-end.ensures))) c.loop-at.invariant

pub returns-in_err-push-clause-refused : goal.returns-in_err-push-clause-refused
returns-in_err-push-clause-refused g c =
    let row = g.L.PageLine.columns c.args.line.now in
    let p = err_from_is_err_and c.from_residual.result c.from_residual.ensures.1 in
    rw (p.1, p.2) (refused_for _ (λ fits. subst IsShort (sym c.value.ensures) (value_short row c.loop-at.at (omega (arith, c.loop-at-test.true, c.width-at-end.ensures)) fits)) c.in_err-push.ensures.refused)

pub returns-in_err-push-clause-taken : goal.returns-in_err-push-clause-taken
returns-in_err-push-clause-taken g c = IfOk-from_err c.from_residual.result _ c.from_residual.ensures.0
