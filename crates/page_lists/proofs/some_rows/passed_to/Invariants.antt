use Rattle.std.proofs.Common.{◌≤◌, ◌<◌, ◌<ℤ◌, ◌-◌, ℕ, pos, length, get_or}
use Rattle.page_lists.proofs.some_rows.passed_to.Given as goal

abbrev pub invariant-numbers : goal.invariant-numbers
invariant-numbers l = record {
  within : l.from ≤ length l.numbers → l.at ≤ length l.numbers;
  passed : (k : ℕ) → l.from ≤ k → k < l.at → pos (get_or l.numbers k 0) <ℤ l.rowid;
}

abbrev pub decreases-numbers : goal.decreases-numbers
decreases-numbers l = length l.numbers - l.at
