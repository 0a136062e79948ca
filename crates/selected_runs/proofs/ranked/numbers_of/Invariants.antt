use Rattle.std.proofs.Common.{◌≡◌, ◌++◌, drop}
use Rattle.selected_runs.specs.Ranked.{sums_of}
use Rattle.selected_runs.specs.Sums.{numbers_told}
use Rattle.selected_runs.proofs.ranked.numbers_of.Given as goal

-- the numbers so far, and those of the rows to come
abbrev pub invariant-loop-row : goal.invariant-loop-row
invariant-loop-row l = l.numbers.items ++ numbers_told l.key (sums_of (drop l.row-index l.rows)) ≡ numbers_told l.key (sums_of l.rows)
