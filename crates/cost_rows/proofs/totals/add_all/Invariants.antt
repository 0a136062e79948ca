use Rattle.std.proofs.Common.{◌≡◌, ℕ, ◌+◌, ◌<◌, length, slice_index}
use Rattle.cost_rows.specs.Totals.{column_total}
use Rattle.cost_rows.proofs.totals.add_all.Given as goal

-- the totals so far and those of what is left sum to the totals of all
abbrev pub invariant-loop-sums : goal.invariant-loop-sums
invariant-loop-sums g l =
    (k : ℕ) → k < length l.totals → slice_index l.totals k + column_total (λ sums. sums) k l.sums-iterator ≡ slice_index l.initial.totals k + column_total (λ sums. sums) k l.fn.entries
