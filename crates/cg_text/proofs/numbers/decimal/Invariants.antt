use Rattle.std.proofs.Common.{◌≡◌, ◌<◌, ◌^◌, true, take}
use Rattle.std.specs.List.{list_all}
use Rattle.cg_text.specs.Numbers.{is_digit, value_in}
use Rattle.cg_text.proofs.numbers.decimal.Given as goal

-- the digits so far are digits, and this is their number
abbrev pub invariant-loop-b : goal.invariant-loop-b
invariant-loop-b l = record {
  value : l.value ≡ value_in 10 (take l.b-index l.digits);
  digits : list_all is_digit (take l.b-index l.digits) ≡ true;
  small : l.value < 2 ^ 64;
}
