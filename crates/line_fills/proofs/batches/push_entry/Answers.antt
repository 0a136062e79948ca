use Rattle.std.proofs.Common.{[], ◌∷◌, ◌++◌, map, pos, take, arith, sym, ap, ap₂, subst, ◌∙◌, take_all}
use Rattle.std.proofs.lemmas.List.{map_more}
use Rattle.std.proofs.lemmas.Result.{err_from_is_err_and}
use Rattle.sqlite_value.specs.declared.value.Value.TheVariants.{Int}
use Rattle.sqlite_value.specs.Order.{Row, column}
use Rattle.line_fills.specs.Written.{HasValues}
use Rattle.line_fills.proofs.Steps.{on_ok}
use Rattle.line_fills.specs.Causes.{IsShort}
use Rattle.line_fills.proofs.Refused.{entry_short, if_err, refused_for, rowid_short}
use Rattle.line_fills.proofs.batches.push_entry.Goals as goal

pub loop-at-preserved : goal.loop-at-preserved
loop-at-preserved g c =
    let row : Row = Int (pos c.args.rowid) ∷ g.L.PageLine.columns c.args.line.now in
    let i = c.loop-at.at-index in
    let front = map (column row) (take i c.args.columns.now) in
    subst (HasValues c.push.new.self) (ap (λ v. front ++ v ∷ []) c.row_value.ensures ∙ sym (map_more (column row) c.args.columns.now i 0 c.loop-at-test.true))
    (c.in_ok-push.ensures.taken front c.loop-at.invariant)

pub returns-clause-taken : goal.returns-clause-taken
returns-clause-taken g c =
    let row : Row = Int (pos c.args.rowid) ∷ g.L.PageLine.columns c.args.line.now in
    let columns = c.args.columns.now in
    let all = take_all c.loop-at.at-index columns (omega (arith, c.loop-at-test.false)) in
    on_ok c.push-2.result (subst (HasValues c.push-2.new.self) (ap₂ (λ (places : _) v. map (column row) places ++ v ∷ []) all c.row_value-2.ensures))
    (c.push-2.ensures.taken (map (column row) (take c.loop-at.at-index columns)) c.loop-at.invariant)

pub returns-in_err-push-clause-refused : goal.returns-in_err-push-clause-refused
returns-in_err-push-clause-refused g c =
    let row : Row = Int (pos c.args.rowid) ∷ g.L.PageLine.columns c.args.line.now in
    let p = err_from_is_err_and c.from_residual.result c.from_residual.ensures.1 in
    rw (p.1, p.2) (refused_for _ (λ fits. subst IsShort (sym c.row_value.ensures) (entry_short c.args.columns.now row fits c.loop-at.at-index 0 c.loop-at-test.true)) c.in_err-push.ensures.refused)

pub returns-clause-refused : goal.returns-clause-refused
returns-clause-refused g c =
    let row : Row = Int (pos c.args.rowid) ∷ g.L.PageLine.columns c.args.line.now in
    if_err c.push-2.result (λ e. refused_for e (λ fits. subst IsShort (sym c.row_value-2.ensures) (rowid_short c.args.columns.now row fits))) c.push-2.ensures.refused
