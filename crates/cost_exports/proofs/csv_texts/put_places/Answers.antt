use Rattle.std.proofs.Common.{◌≡◌, ◌++◌, ℕ, List, [], slice_index_or, unwrap_or, sym, ap, subst, ◌∙◌}
use Rattle.std.proofs.lemmas.Grind.{flat_map-append}
use Rattle.std.proofs.lemmas.List.{append-nil, append_assoc}
use Rattle.report_texts.specs.Csv.{csv_row, csv_rows}
use Rattle.std.proofs.lemmas.Option.{unwrap_or-slice_get}
use Rattle.cost_exports.specs.Pieces.{IsOn}
use Rattle.cost_exports.specs.Views.{held_names, held_slots, placed, spread, sums_in, with_lines}
use Rattle.cost_exports.proofs.PieceLemmas.{cut_on, passed}
use Rattle.cost_exports.proofs.SlotLemmas.{Lines}
use Rattle.cost_exports.proofs.csv_texts.put_places.Goals as goal

pub loop-names-preserved-in-Continue-1 : goal.loop-names-preserved-in-Continue-1
loop-names-preserved-in-Continue-1 g c from text on =
    let names = held_names c.in-Some.names.now in
    let all = c.args.places.now.lines in
    let lines = c.in-Some-lines.lines.now in
    let more = spread (with_lines all (held_slots c.next.new.self)) in
    let here : slice_index_or all c.in-Some.slot.now [] ≡ lines = sym (unwrap_or-slice_get all c.in-Some.slot.now []) ∙ ap (λ o. unwrap_or o []) (sym c.in-Some-lines.ensures) in
    let rows = csv_rows (placed names lines) in
    let step = ap (λ slots. csv_rows (spread (with_lines all (held_slots slots)))) c.in-Some.ensures.steps
    ∙ ap (λ (x : Lines). csv_rows (placed names x ++ more)) here
    ∙ flat_map-append csv_row (placed names lines) more in
    let was = c.loop-names.invariant from text on in
    (was.0 ++ rows, c.in_ok-put_lines.ensures from was.0 was.1, append_assoc was.0 rows (csv_rows more) ∙ ap (λ bytes. was.0 ++ bytes) (sym step) ∙ was.2)

pub returns-in_err-put_lines : goal.returns-in_err-put_lines
returns-in_err-put_lines g c from text on =
    let names = held_names c.in-Some.names.now in
    let all = c.args.places.now.lines in
    let lines = c.in-Some-lines.lines.now in
    let more = spread (with_lines all (held_slots c.next.new.self)) in
    let here : slice_index_or all c.in-Some.slot.now [] ≡ lines = sym (unwrap_or-slice_get all c.in-Some.slot.now []) ∙ ap (λ o. unwrap_or o []) (sym c.in-Some-lines.ensures) in
    let rows = csv_rows (placed names lines) in
    let step = ap (λ slots. csv_rows (spread (with_lines all (held_slots slots)))) c.in-Some.ensures.steps
    ∙ ap (λ (x : Lines). csv_rows (placed names x ++ more)) here
    ∙ flat_map-append csv_row (placed names lines) more in
    let was = c.loop-names.invariant from text on in
    let whole = text ++ csv_rows (sums_in c.args.places.now) in
    let same : (was.0 ++ rows) ++ csv_rows more ≡ whole = append_assoc was.0 rows (csv_rows more) ∙ ap (λ bytes. was.0 ++ bytes) (sym step) ∙ was.2 in
    passed c.from_residual.result _ _ _ c.from_residual.ensures.1
    (cut_on g.W.TextSink.takes from g.W.TextSink.stops c.put_lines.new.pieces c.put_lines.new.out (was.0 ++ rows) (csv_rows more) whole same (c.in_err-put_lines.ensures from was.0 was.1))

pub loop-names-preserved : goal.loop-names-preserved
loop-names-preserved g c from text on =
    let names = held_names c.in-Some.names.now in
    let all = c.args.places.now.lines in
    let more = spread (with_lines all (held_slots c.next.new.self)) in
    let here : slice_index_or all c.in-Some.slot.now [] ≡ [] = sym (unwrap_or-slice_get all c.in-Some.slot.now []) ∙ ap (λ o. unwrap_or o []) (sym c.in_default.ensures) in
    let step = ap (λ slots. csv_rows (spread (with_lines all (held_slots slots)))) c.in-Some.ensures.steps
    ∙ ap (λ (x : Lines). csv_rows (placed names x ++ more)) here in
    let was = c.loop-names.invariant from text on in
    (was.0, was.1, ap (λ bytes. was.0 ++ bytes) (sym step) ∙ was.2)

pub returns : goal.returns
returns g c from text on =
    let all = c.args.places.now.lines in
    let was = c.loop-names.invariant from text on in
    let done = sym (append-nil was.0) ∙ ap (λ slots. was.0 ++ csv_rows (spread (with_lines all (held_slots slots)))) (sym c.in-None.ensures.steps.0) ∙ was.2 in
    subst (λ (bytes : List ℕ). IsOn g.W.TextSink.takes from c.loop-names.pieces c.loop-names.out bytes) done was.1
