use Rattle.std.proofs.Common.{◌≡◌, ◌++◌}
use Rattle.selected_runs.specs.Sums.{numbers_told}
use Rattle.selected_runs.proofs.numbers.numbers_of.Given as goal

-- the numbers so far, and those of the sums to come
abbrev pub invariant-loop-part : goal.invariant-loop-part
invariant-loop-part l = l.numbers.items ++ numbers_told l.key l.part-iterator ≡ numbers_told l.key l.sums
