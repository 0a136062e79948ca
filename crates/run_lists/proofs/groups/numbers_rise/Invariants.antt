use Rattle.std.proofs.Common.{ℕ, ◌<◌}
use Rattle.std.specs.List.{AllAdjacentBelow}
use Rattle.run_lists.proofs.groups.numbers_rise.Given as goal

abbrev pub invariant-loop-k : goal.invariant-loop-k
invariant-loop-k l = AllAdjacentBelow (λ (a b : ℕ). a < b) l.numbers l.k
