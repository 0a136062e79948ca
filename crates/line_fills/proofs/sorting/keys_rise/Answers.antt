use Rattle.std.proofs.Common.{◌≡◌, ◌-◌, not, ◌==◌, suc, get_or, map, Less, true≢false, arith, sym, ap, ap₂, ◌∙◌}
use Rattle.std.specs.Ordering.{ordering_index}
use Rattle.sqlite_value.specs.Order.{Row, column, row_cmp}
use Rattle.line_fills.specs.Rows.{key_at}
use Rattle.line_fills.proofs.Numbers.{row_of_line}
use Rattle.line_fills.proofs.Rising.{rise_from_next}
use Rattle.line_fills.proofs.sorting.keys_rise.Goals as goal

pub returns-clause-rise : goal.returns-clause-rise
returns-clause-rise g c = λ _.
    rise_from_next (key_at c.args.columns.now c.args.first (map g.L.PageLine.columns c.args.lines.now)) c.args.places.now
    (λ j low. c.loop-i.invariant j (omega (arith, low, c.loop-i-test.false)))

pub returns-then-ne-clause-tied : goal.returns-then-ne-clause-tied
returns-then-ne-clause-tied g c = λ _.
    let i = c.loop-i.i in
    let f = g.L.PageLine.columns in
    let first = c.args.first in
    let lines = c.args.lines.now in
    let columns = c.args.columns.now in
    let places = c.args.places.now in
    let key = key_at columns first (map f lines) in
    let before = get_or places (i - 1) 0 in
    let after = get_or places i 0 in
    let one = row_of_line f first lines before c.index-lines-before.result (c.requires.within (i - 1) 0 (omega (arith, c.loop-i-test.true))) c.index-lines-before.is in
    let two = row_of_line f first lines after c.index-lines-after.result (c.requires.within i 0 c.loop-i-test.true) c.index-lines-after.is in
    let found : c.compare_keys-found.result ≡ row_cmp (key before) (key after) = c.compare_keys-found.ensures ∙ ap₂ (λ (a b : Row). row_cmp (map (column a) columns) (map (column b) columns)) one two in
    let next : suc (i - 1) ≡ i = omega (arith, c.loop-i.auto.i) in (
      i - 1,
      omega (arith, c.loop-i-test.true, next),
      λ less.
          let below : c.compare_keys-found.result ≡ Less = found ∙ ap (λ k. row_cmp (key before) (key (get_or places k 0))) (sym next) ∙ less in
          true≢false (c.if-ne.ensures ∙ ap (λ o. not (ordering_index o == 0)) below),
    )

pub returns-then-ne-clause-rise : goal.returns-then-ne-clause-rise
returns-then-ne-clause-rise g c = λ h. absurd (true≢false (sym h))

pub returns-clause-tied : goal.returns-clause-tied
returns-clause-tied g c = λ e. absurd (true≢false e)

pub loop-i-init : goal.loop-i-init
loop-i-init g c = λ j low. absurd (omega (arith, low))
