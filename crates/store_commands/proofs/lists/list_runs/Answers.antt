use Rattle.std.proofs.Common.{ap, ◌∙◌, flat_map}
use Rattle.store_commands.specs.Lists.{entry_line}
use Rattle.store_commands.proofs.lists.list_runs.Goals as goal

pub returns-clause-told : goal.returns-clause-told
returns-clause-told g c clean t represents = record {
  entries = c.in_ok-runs.runs.items;
  are_held = c.in_ok-runs.ensures.told clean t represents;
  text_is = c.in_ok-runs_text.ensures ∙ ap (flat_map entry_line) c.deref.ensures.value;
}
