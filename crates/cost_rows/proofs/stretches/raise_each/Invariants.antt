use Rattle.std.proofs.Common.{◌≡◌, ℕ, ◌+◌, ◌<◌, ◌≤◌, slice_index}
use Rattle.cost_rows.proofs.stretches.raise_each.Given as goal

-- the columns before k have their costs, and the others are as they were
abbrev pub invariant-loop-k : goal.invariant-loop-k
invariant-loop-k l = record {
  added : (j : ℕ) → j < l.k → slice_index l.sums j ≡ slice_index l.fn.sums j + slice_index l.costs j;
  kept : (j : ℕ) → l.k ≤ j → slice_index l.sums j ≡ slice_index l.fn.sums j;
}
