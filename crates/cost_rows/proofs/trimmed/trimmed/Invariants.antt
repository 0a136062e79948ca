use Rattle.std.proofs.Common.{◌≡◌, length}
use Rattle.cost_rows.specs.Trimmed.{trimmed}
use Rattle.cost_rows.proofs.trimmed.trimmed.Given as goal

-- what was passed is zeros
abbrev pub invariant-loop-last : goal.invariant-loop-last
invariant-loop-last l = trimmed l.rest ≡ trimmed l.costs

abbrev pub decreases-loop-last : goal.decreases-loop-last
decreases-loop-last l = length l.rest
