use Rattle.std.proofs.Common.{sym, ◌∙◌, arith}
use Rattle.run_stores.proofs.Calls.{asked_reads}
use Rattle.store_reports.proofs.AnnotateLemmas.{is_a_name, lines_from_runs, text_found, text_missing}
use Rattle.store_reports.proofs.annotating.annotated_text.Goals as goal

pub returns-then-not-is_known-clause-told : goal.returns-then-not-is_known-clause-told
returns-then-not-is_known-clause-told g c clean t represents =
    let some = is_a_name c.args.name.now (λ i. let fits = (c.type_inv.name i).fits in omega (arith, fits)) in
    let early = (c.in_ok-sums.ensures.asks clean).stays.was_faithful in
    let mid = asked_reads g.S.StoreState t _ _ (c.in_ok-number.ensures.asks early) represents in
    let lines = lines_from_runs t c.args.name.now c.in_ok-number.number (g.S.StoreState.apart t _ represents) some (c.in_ok-number.ensures.told early t represents) c.args.runs.now _ _ c.in_ok-new.ensures (c.in_ok-sums.ensures.told clean t mid) in
    text_missing t c.args.event.now c.args.name.now c.args.source.now c.args.runs.now c.in_ok-sums.sums lines (sym c.is_known.ensures ∙ c.if-not-is_known.true)

pub returns-clause-told : goal.returns-clause-told
returns-clause-told g c clean t represents =
    let some = is_a_name c.args.name.now (λ i. let fits = (c.type_inv.name i).fits in omega (arith, fits)) in
    let early = (c.in_ok-sums.ensures.asks clean).stays.was_faithful in
    let mid = asked_reads g.S.StoreState t _ _ (c.in_ok-number.ensures.asks early) represents in
    let lines = lines_from_runs t c.args.name.now c.in_ok-number.number (g.S.StoreState.apart t _ represents) some (c.in_ok-number.ensures.told early t represents) c.args.runs.now _ _ c.in_ok-new.ensures (c.in_ok-sums.ensures.told clean t mid) in
    text_found t c.args.event.now c.args.name.now c.args.source.now c.args.runs.now c.in_ok-sums.sums c.in_ok-text.field-0 lines (sym c.is_known.ensures ∙ c.if-not-is_known.false) c.in_ok-text.ensures.text
