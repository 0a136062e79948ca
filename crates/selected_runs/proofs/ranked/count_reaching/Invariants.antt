use Rattle.std.proofs.Common.{◌≡◌, take}
use Rattle.selected_runs.specs.Ranked.{sums_of}
use Rattle.selected_runs.specs.Sums.{numbers_total}
use Rattle.selected_runs.proofs.ranked.count_reaching.Given as goal

-- what the rows so far sum to
abbrev pub invariant-loop-k : goal.invariant-loop-k
invariant-loop-k l = l.before ≡ numbers_total (take l.k (sums_of l.rows))
