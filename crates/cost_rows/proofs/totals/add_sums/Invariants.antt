use Rattle.std.proofs.Common.{◌≡◌, ℕ, ◌+◌, ◌<◌, ◌≤◌, slice_index}
use Rattle.cost_rows.proofs.totals.add_sums.Given as goal

-- the columns before k have their sums, and the others are as they were
abbrev pub invariant-loop-k : goal.invariant-loop-k
invariant-loop-k l = record {
  gained : (j : ℕ) → j < l.k → slice_index l.totals j ≡ slice_index l.fn.totals j + slice_index l.sums j;
  kept : (j : ℕ) → l.k ≤ j → slice_index l.totals j ≡ slice_index l.fn.totals j;
}
