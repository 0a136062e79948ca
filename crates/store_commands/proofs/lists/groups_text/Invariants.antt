use Rattle.std.proofs.Common.{◌≡◌, ◌++◌, drop, flat_map, string_bytes}
use Rattle.store_commands.specs.Lists.{group_entry_line}
use Rattle.store_commands.proofs.lists.groups_text.Given as goal

abbrev pub invariant-loop-group : goal.invariant-loop-group
invariant-loop-group l = string_bytes l.text ++ flat_map group_entry_line (drop l.group-index l.groups) ≡ flat_map group_entry_line l.groups
