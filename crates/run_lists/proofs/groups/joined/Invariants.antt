use Rattle.std.proofs.Common.{◌≡◌, ◌≤◌, List, length, map, flat_map, take}
use Rattle.run_stores.specs.Entries.{entry_group, entry_members}
use Rattle.run_stores.specs.declared.entries.GroupEntry.{GroupEntry}
use Rattle.run_lists.specs.InOrder.{AreRowsOf}
use Rattle.run_lists.specs.Lent.{lent_group, lent_member}
use Rattle.run_lists.proofs.GroupSteps.{members_before}
use Rattle.run_lists.proofs.groups.joined.Given as goal

abbrev pub invariant-groups : goal.invariant-groups
invariant-groups l = record {
  groups : map entry_group l.entries.items ≡ map lent_group (take l.group-index l.groups);
  within : l.taken ≤ length l.members;
  members : flat_map entry_members l.entries.items ≡ map lent_member (take l.taken l.members);
  so_many : (entries : List GroupEntry) → AreRowsOf entries (map lent_group l.groups) (map lent_member l.members) → l.taken ≡ members_before entries l.group-index;
}
