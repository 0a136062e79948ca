use Rattle.std.proofs.Common.{ℕ, ◌+◌, ◌-◌, List, vec_len}
use Rattle.cost_rows.specs.StackCounts.{AreFound}
use Rattle.cost_rows.proofs.stack_counts.lengthen.Given as goal

-- what is kept is right as long as it was
abbrev pub invariant-loop-found : goal.invariant-loop-found
invariant-loop-found l = (slots : List (List ℕ × ℕ)) → AreFound slots l.fn.found.items → AreFound slots l.found.items

abbrev pub decreases-loop-found : goal.decreases-loop-found
decreases-loop-found l = l.at + 1 - vec_len l.found
