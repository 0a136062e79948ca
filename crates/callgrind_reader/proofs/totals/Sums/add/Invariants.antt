use Rattle.std.proofs.Common.{◌≡◌, ℕ, ◌+◌, ◌<◌, ◌≤◌, slice_index}
use Rattle.callgrind_reader.proofs.totals.Sums.add.Given as goal

-- the columns before k have their amounts, and the others are as they were
abbrev pub invariant-loop-k : goal.invariant-loop-k
invariant-loop-k l = record {
  added : (j : ℕ) → j < l.k → slice_index l.self.sums.items j ≡ slice_index l.fn.self.sums.items j + slice_index l.amounts j;
  kept : (j : ℕ) → l.k ≤ j → slice_index l.self.sums.items j ≡ slice_index l.fn.self.sums.items j;
  counted : l.self.lines ≡ l.fn.self.lines + 1;
}
