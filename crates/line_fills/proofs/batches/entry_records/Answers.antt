use Rattle.std.proofs.Common.{◌+◌, ◌∷◌, ℕ, get_or, map, pos, take, sym, ap, subst, subst₂, ◌∙◌}
use Rattle.std.proofs.lemmas.List.{map_more}
use Rattle.std.proofs.lemmas.Result.{IfOk-from_err, err_from_is_err_and}
use Rattle.line_fills.specs.Causes.{HasRecord}
use Rattle.line_fills.proofs.Refused.{one_of_all, refused_for}
use Rattle.sqlite_sql.specs.Catalog.{entry_of}
use Rattle.sqlite_value.specs.declared.value.Value.TheVariants.{Int}
use Rattle.line_fills.specs.Records.{AreRecordsOf}
use Rattle.line_fills.specs.Rows.{entries_at, row_at}
use Rattle.line_fills.proofs.Cuts.{one_written}
use Rattle.line_fills.proofs.Numbers.{row_of_line}
use Rattle.line_fills.proofs.batches.entry_records.Goals as goal

pub loop-place-preserved : goal.loop-place-preserved
loop-place-preserved g c =
    let columns = c.args.columns.now in
    let first = c.args.first in
    let lines = map g.L.PageLine.columns c.args.lines.now in
    let places = c.args.places.now in
    let i = c.loop-place.place-index in
    let place = get_or places i 0 in
    let x = c.index-lines-place.result in
    let entry = λ (k : ℕ). entry_of columns (row_at first lines k) in
    let is = row_of_line g.L.PageLine.columns first c.args.lines.now place x (c.requires.within i 0 c.loop-place-test.true) c.index-lines-place.is in
    let made = entry_of columns (Int (pos (first + place)) ∷ g.L.PageLine.columns x) in
    subst₂ AreRecordsOf (sym (map_more entry places i 0 c.loop-place-test.true)) (sym c.in_ok-push.ensures)
    (one_written (entries_at columns first lines (take i places)) c.loop-place.records (entry place) c.in_ok-record.field-0.now c.loop-place.invariant
    (c.in_ok-record.ensures.decoded made c.in_ok-push_entry.ensures.taken ∙ ap (entry_of columns) is) (c.in_ok-record.ensures.writable made c.in_ok-push_entry.ensures.taken))

pub returns-in_err-push_entry-clause-refused : goal.returns-in_err-push_entry-clause-refused
returns-in_err-push_entry-clause-refused g c =
    let columns = c.args.columns.now in
    let first = c.args.first in
    let lines = map g.L.PageLine.columns c.args.lines.now in
    let places = c.args.places.now in
    let i = c.loop-place.place-index in
    let place = get_or places i 0 in
    let x = c.index-lines-place.result in
    let is = row_of_line g.L.PageLine.columns first c.args.lines.now place x (c.requires.within i 0 c.loop-place-test.true) c.index-lines-place.is in
    let p = err_from_is_err_and c.from_residual.result c.from_residual.ensures.1 in
    rw (p.1, p.2) (refused_for _ (λ all. subst (λ row. HasRecord (entry_of columns row)) (sym is) (one_of_all (λ k. entry_of columns (row_at first lines k)) places i 0 c.loop-place-test.true all))
    c.in_err-push_entry.ensures.refused)

pub returns-in_err-record-clause-refused : goal.returns-in_err-record-clause-refused
returns-in_err-record-clause-refused g c =
    let columns = c.args.columns.now in
    let first = c.args.first in
    let lines = map g.L.PageLine.columns c.args.lines.now in
    let places = c.args.places.now in
    let i = c.loop-place.place-index in
    let place = get_or places i 0 in
    let x = c.index-lines-place.result in
    let is = row_of_line g.L.PageLine.columns first c.args.lines.now place x (c.requires.within i 0 c.loop-place-test.true) c.index-lines-place.is in
    let p = err_from_is_err_and c.from_residual-in_err-record.result c.from_residual-in_err-record.ensures.1 in
    rw (p.1, p.2) (refused_for _ (λ all. subst (λ row. HasRecord (entry_of columns row)) (sym is) (one_of_all (λ k. entry_of columns (row_at first lines k)) places i 0 c.loop-place-test.true all))
    (c.in_err-record.ensures.refused (entry_of columns (Int (pos (first + place)) ∷ g.L.PageLine.columns x)) c.in_ok-push_entry.ensures.taken))

pub returns-in_err-push_entry-clause-made : goal.returns-in_err-push_entry-clause-made
returns-in_err-push_entry-clause-made g c = IfOk-from_err c.from_residual.result _ c.from_residual.ensures.0

pub returns-in_err-record-clause-made : goal.returns-in_err-record-clause-made
returns-in_err-record-clause-made g c = IfOk-from_err c.from_residual-in_err-record.result _ c.from_residual-in_err-record.ensures.0

pub returns-in_err-push-clause-made : goal.returns-in_err-push-clause-made
returns-in_err-push-clause-made g c = IfOk-from_err c.from_residual-in_err-push.result _ c.from_residual-in_err-push.ensures.0
