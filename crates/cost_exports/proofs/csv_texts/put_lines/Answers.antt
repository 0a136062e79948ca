use Rattle.std.proofs.Common.{◌≡◌, ◌++◌, ℕ, List, sym, ap, subst, ◌∙◌}
use Rattle.std.proofs.lemmas.List.{append-nil, append_assoc}
use Rattle.report_texts.specs.Csv.{csv_row, csv_rows}
use Rattle.cost_exports.specs.Pieces.{IsOn}
use Rattle.cost_exports.specs.Views.{held_line, held_lines, held_names, placed, spot_with}
use Rattle.cost_exports.proofs.PieceLemmas.{cut_on, passed}
use Rattle.cost_exports.proofs.csv_texts.put_lines.Goals as goal

pub loop-line-preserved : goal.loop-line-preserved
loop-line-preserved g c from text on =
    let names = held_names c.args.names.now in
    let row = csv_row (spot_with names (held_line c.in-Some.line.now), c.in-Some.cost.now) in
    let was = c.loop-line.invariant from text on in (
      was.0 ++ row,
      c.in_ok-put_line.ensures from was.0 was.1,
      append_assoc was.0 row (csv_rows (placed names (held_lines c.next.new.self)))
          ∙ ap (λ lines. was.0 ++ csv_rows (placed names (held_lines lines))) (sym c.in-Some.ensures.steps)
          ∙ was.2,
    )

pub returns-in_err-put_line : goal.returns-in_err-put_line
returns-in_err-put_line g c from text on =
    let names = held_names c.args.names.now in
    let row = csv_row (spot_with names (held_line c.in-Some.line.now), c.in-Some.cost.now) in
    let more = csv_rows (placed names (held_lines c.next.new.self)) in
    let all = text ++ csv_rows (placed names c.args.lines.now) in
    let was = c.loop-line.invariant from text on in
    let same : (was.0 ++ row) ++ more ≡ all = append_assoc was.0 row more ∙ ap (λ lines. was.0 ++ csv_rows (placed names (held_lines lines))) (sym c.in-Some.ensures.steps) ∙ was.2 in
    passed c.from_residual.result _ _ _ c.from_residual.ensures.1
    (cut_on g.W.TextSink.takes from g.W.TextSink.stops c.put_line.new.pieces c.put_line.new.out (was.0 ++ row) more all same (c.in_err-put_line.ensures from was.0 was.1))

pub returns : goal.returns
returns g c from text on =
    let names = held_names c.args.names.now in
    let was = c.loop-line.invariant from text on in
    let all = sym (append-nil was.0) ∙ ap (λ lines. was.0 ++ csv_rows (placed names (held_lines lines))) (sym c.in-None.ensures.steps.0) ∙ was.2 in
    subst (λ (bytes : List ℕ). IsOn g.W.TextSink.takes from c.loop-line.pieces c.loop-line.out bytes) all was.1
