use Rattle.std.proofs.Common.{◌≡◌, length}
use Rattle.cg_text.specs.Distinct.{are_distinct}
use Rattle.cg_text.proofs.distinct.are_distinct.Given as goal

-- the names so far stand once
abbrev pub invariant-loop-name : goal.invariant-loop-name
invariant-loop-name l = are_distinct l.rest ≡ are_distinct l.names

abbrev pub decreases-loop-name : goal.decreases-loop-name
decreases-loop-name l = length l.rest
