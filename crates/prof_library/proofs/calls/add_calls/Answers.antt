use Rattle.std.proofs.Common.{◌+◌, drop, fold, sym, ap, ◌∙◌}
use Rattle.report_texts.specs.Calls.{CallsOfFunction, with_calls}
use Rattle.prof_library.specs.Given.{calls_in}
use Rattle.prof_library.proofs.Lemmas.{next_row, stay_below}
use Rattle.prof_library.proofs.calls.add_calls.Goals as goal

pub loop-row-preserved : goal.loop-row-preserved
loop-row-preserved c =
    let rows = c.args.rows.now in
    let at = c.loop-row.row-index in
    let held = c.loop-row.sums in
    let low = c.loop-row-test.true in
    let ok = c.in_ok-add.ensures.ok in
    record {
      sums = ap (λ (s : CallsOfFunction). fold with_calls s (calls_in (drop (at + 1) rows))) ok
          ∙ sym (ap (λ l. fold with_calls held (calls_in l)) (next_row rows at _ low)) ∙ c.loop-row.invariant.sums;
      small = stay_below held c.add.new.self rows at _ low ok c.loop-row.invariant.small;
    }
