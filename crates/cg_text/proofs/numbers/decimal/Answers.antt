use Rattle.std.proofs.Common.{Err, length, sym, ◌∙◌, ap, ◌≡◌, true, arith}
use Rattle.std.specs.List.{list_all}
use Rattle.std.proofs.lemmas.Bool.{eqb-false}
use Rattle.std.proofs.lemmas.List.{take_all}
use Rattle.cg_text.specs.Numbers.{is_digit, value_in}
use Rattle.cg_text.proofs.NumbersLemmas.{value_in-more, digits_in-fits, digits_in-large}
use Rattle.cg_text.proofs.numbers.decimal.Goals as goal

pub returns-in-None : goal.returns-in-None
returns-in-None c =
    let digits = c.args.digits.now in
    let more = rw (← c.loop-b.invariant.value) at (value_in-more 10 digits c.loop-b.b-index (omega arith) (omega arith)) in
    ap Err c.large_or_bad.ensures ∙ digits_in-large 10 is_digit digits (λ e. eqb-false (length digits) 0 (sym c.is_empty.ensures ∙ c.if-is_empty.false) e) (omega (arith, more, c.in-None.ensures))

pub returns : goal.returns
returns c =
    let digits = c.args.digits.now in
    let whole = take_all c.loop-b.b-index digits (omega arith) in
    let all : list_all is_digit digits ≡ true = ap (list_all is_digit) (sym whole) ∙ c.loop-b.invariant.digits in
    let value : c.loop-b.value ≡ value_in 10 digits = c.loop-b.invariant.value ∙ ap (value_in 10) whole in
    digits_in-fits 10 is_digit digits c.loop-b.value (λ e. eqb-false (length digits) 0 (sym c.is_empty.ensures ∙ c.if-is_empty.false) e) all value c.loop-b.invariant.small
