use Rattle.std.proofs.Common.{◌≡◌, map, take, length}
use Rattle.run_stores.specs.Entries.{member_of}
use Rattle.run_lists.specs.Lent.{lent_member}
use Rattle.run_lists.proofs.groups.runs_of.Given as goal

abbrev pub invariant-members : goal.invariant-members
invariant-members l = (length l.runs ≡ l.member-index) × (map (member_of l.name) l.runs ≡ map lent_member (take l.member-index l.members))
