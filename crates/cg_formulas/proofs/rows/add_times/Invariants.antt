use Rattle.std.proofs.Common.{◌≡◌, ℕ, ◌+◌, ◌*◌, ◌<◌, ◌≤◌, length, slice_index}
use Rattle.cg_formulas.specs.Rows.{capped}
use Rattle.cg_formulas.proofs.rows.add_times.Given as goal

-- the columns before k are added, and the others are as they were
abbrev pub invariant-loop-k : goal.invariant-loop-k
invariant-loop-k l = record {
  wide : length l.row ≡ length l.fn.row;
  added : (j : ℕ) → j < l.k → slice_index l.row j ≡ capped (slice_index l.fn.row j + l.number * slice_index l.counts j);
  kept : (j : ℕ) → l.k ≤ j → slice_index l.row j ≡ slice_index l.fn.row j;
}
