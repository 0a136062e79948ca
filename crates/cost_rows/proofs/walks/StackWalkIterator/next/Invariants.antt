use Rattle.std.proofs.Common.{◌≡◌, length}
use Rattle.cost_rows.specs.Slots.{with_sums}
use Rattle.cost_rows.specs.Stacks.{by_bytes}
use Rattle.cost_rows.specs.Walks.{counted_stacks}
use Rattle.cost_rows.proofs.walks.StackWalkIterator.next.Given as goal

-- what was passed gives no row
abbrev pub invariant-loop-stack : goal.invariant-loop-stack
invariant-loop-stack l =
    (l.self-inside.counts.now ≡ l.initial.self-inside.counts.now)
    × (counted_stacks (with_sums l.self-inside.counts.now (by_bytes l.self-inside.rest)) ≡ counted_stacks (with_sums l.initial.self-inside.counts.now (by_bytes l.initial.self-inside.rest)))

abbrev pub decreases-loop-stack : goal.decreases-loop-stack
decreases-loop-stack l = length l.self-inside.rest
