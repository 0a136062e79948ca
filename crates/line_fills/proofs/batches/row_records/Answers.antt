use Rattle.std.proofs.Common.{◌≡◌, ◌+◌, [], ◌∷◌, ◌++◌, map, take, sym, ap, subst, subst₂, ◌∙◌}
use Rattle.std.proofs.lemmas.List.{map_more}
use Rattle.std.proofs.lemmas.Result.{IfOk-from_err, err_from_is_err_and}
use Rattle.line_fills.specs.Causes.{HasRecord}
use Rattle.line_fills.proofs.Refused.{one_of_all, refused_for}
use Rattle.line_fills.specs.Records.{AreRecordsOf}
use Rattle.line_fills.proofs.Cuts.{one_written}
use Rattle.line_fills.proofs.batches.row_records.Goals as goal

pub loop-line-preserved : goal.loop-line-preserved
loop-line-preserved g c =
    let columns = g.L.PageLine.columns in
    let lines = c.args.lines.now in
    let i = c.loop-line.line-index in
    let x = c.line-item.result in
    let rows : map columns (take (i + 1) lines) ≡ map columns (take i lines) ++ columns x ∷ [] =
    map_more columns lines i x c.loop-line-test.true ∙ ap (λ y. map columns (take i lines) ++ columns y ∷ []) (sym c.line-item.is) in
    subst₂ AreRecordsOf (sym rows) (sym c.in_ok-push.ensures)
    (one_written (map columns (take i lines)) c.loop-line.records (columns x) c.in_ok-record.field-0.now c.loop-line.invariant
    (c.in_ok-record.ensures.decoded (columns x) c.in_ok-push_columns.ensures.taken) (c.in_ok-record.ensures.writable (columns x) c.in_ok-push_columns.ensures.taken))

pub returns-in_err-push_columns-clause-refused : goal.returns-in_err-push_columns-clause-refused
returns-in_err-push_columns-clause-refused g c =
    let columns = g.L.PageLine.columns in
    let p = err_from_is_err_and c.from_residual.result c.from_residual.ensures.1 in
    rw (p.1, p.2) (refused_for _ (λ all. subst (λ x. HasRecord (columns x)) (sym c.line-item.is) (one_of_all columns c.args.lines.now c.loop-line.line-index c.line-item.result c.loop-line-test.true all)) c.in_err-push_columns.ensures.refused)

pub returns-in_err-record-clause-refused : goal.returns-in_err-record-clause-refused
returns-in_err-record-clause-refused g c =
    let columns = g.L.PageLine.columns in
    let p = err_from_is_err_and c.from_residual-in_err-record.result c.from_residual-in_err-record.ensures.1 in
    rw (p.1, p.2) (refused_for _ (λ all. subst (λ x. HasRecord (columns x)) (sym c.line-item.is) (one_of_all columns c.args.lines.now c.loop-line.line-index c.line-item.result c.loop-line-test.true all))
    (c.in_err-record.ensures.refused (columns c.line-item.result) c.in_ok-push_columns.ensures.taken))

pub returns-in_err-push_columns-clause-made : goal.returns-in_err-push_columns-clause-made
returns-in_err-push_columns-clause-made g c = IfOk-from_err c.from_residual.result _ c.from_residual.ensures.0

pub returns-in_err-record-clause-made : goal.returns-in_err-record-clause-made
returns-in_err-record-clause-made g c = IfOk-from_err c.from_residual-in_err-record.result _ c.from_residual-in_err-record.ensures.0

pub returns-in_err-push-clause-made : goal.returns-in_err-push-clause-made
returns-in_err-push-clause-made g c = IfOk-from_err c.from_residual-in_err-push.result _ c.from_residual-in_err-push.ensures.0
