use Rattle.std.proofs.Common.{◌≡◌, flat_map, take}
use Rattle.store_calls.specs.KeptCalls.{call_numbers}
use Rattle.store_calls.proofs.named_calls.numbers_of.Given as goal

-- the numbers so far
abbrev pub invariant-loop-call : goal.invariant-loop-call
invariant-loop-call l = l.numbers.items ≡ flat_map call_numbers (take l.call-index l.calls)
