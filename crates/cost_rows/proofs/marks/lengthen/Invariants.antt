use Rattle.std.proofs.Common.{◌≡◌, ℕ, ◌-◌, vec_len}
use Rattle.cost_rows.specs.Marks.{number_held}
use Rattle.cost_rows.proofs.marks.lengthen.Given as goal

-- the numbers of all places are as they were
abbrev pub invariant-loop-numbers : goal.invariant-loop-numbers
invariant-loop-numbers l = (place : ℕ) → number_held l.numbers.items place ≡ number_held l.fn.numbers.items place

abbrev pub decreases-loop-numbers : goal.decreases-loop-numbers
decreases-loop-numbers l = l.count - vec_len l.numbers
