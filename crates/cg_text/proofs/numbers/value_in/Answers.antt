use Rattle.std.proofs.Common.{arith}
use Rattle.cg_text.proofs.NumbersLemmas.{value_in-more}
use Rattle.cg_text.proofs.numbers.value_in.Goals as goal

pub returns-in_err-checked_mul : goal.returns-in_err-checked_mul
returns-in_err-checked_mul c =
    let more = rw (← c.loop-b.invariant) at (value_in-more c.args.base c.args.digits.now c.loop-b.b-index c.requires (omega arith)) in
    rw c.from_residual.ensures (omega (arith, more, c.in_err-checked_mul.ensures))

pub returns-in_err-value : goal.returns-in_err-value
returns-in_err-value c =
    let more = rw (← c.loop-b.invariant) at (value_in-more c.args.base c.args.digits.now c.loop-b.b-index c.requires (omega arith)) in
    rw c.from_residual-in_err-value.ensures (omega (arith, more, c.in_err-value.ensures, c.in_ok-checked_mul.ensures, c.digit_value.ensures))
