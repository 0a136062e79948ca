use Rattle.std.proofs.Common.{ap, ◌∙◌, flat_map}
use Rattle.store_commands.specs.Lists.{group_entry_line}
use Rattle.store_commands.proofs.lists.list_groups.Goals as goal

pub returns-clause-told : goal.returns-clause-told
returns-clause-told g c clean t represents = record {
  entries = c.in_ok-groups.groups.items;
  are_groups = c.in_ok-groups.ensures.told clean t represents;
  rising = c.in_ok-groups.ensures.rising;
  text_is = c.in_ok-groups_text.ensures ∙ ap (flat_map group_entry_line) c.deref.ensures.value;
}
