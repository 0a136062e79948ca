use Rattle.std.proofs.Common.{◌-◌, ◌≤◌}
use Rattle.page_files.proofs.trims.place_in.Given as goal

abbrev pub invariant-halve : goal.invariant-halve
invariant-halve g l = (l.low ≤ l.high) × (l.high ≤ l.node.count)

abbrev pub decreases-halve : goal.decreases-halve
decreases-halve g l = l.high - l.low
