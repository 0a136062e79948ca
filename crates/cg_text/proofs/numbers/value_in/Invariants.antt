use Rattle.std.proofs.Common.{◌≡◌, take}
use Rattle.cg_text.specs.Numbers.{value_in}
use Rattle.cg_text.proofs.numbers.value_in.Given as goal

-- the number of the digits so far
abbrev pub invariant-loop-b : goal.invariant-loop-b
invariant-loop-b l = l.value ≡ value_in l.base (take l.b-index l.digits)
