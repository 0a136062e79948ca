use Rattle.std.proofs.Common.{◌≡◌, length}
use Rattle.callgrind_reader.specs.Events.{same_names}
use Rattle.callgrind_reader.proofs.events.same_names.Given as goal

-- the names so far are the same
abbrev pub invariant-loop-name : goal.invariant-loop-name
invariant-loop-name l = same_names l.left l.right ≡ same_names l.names l.others

abbrev pub decreases-loop-name : goal.decreases-loop-name
decreases-loop-name l = length l.left
