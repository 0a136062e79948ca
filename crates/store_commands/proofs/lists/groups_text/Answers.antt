use Rattle.std.proofs.Common.{◌++◌, ap, ◌∙◌, flat_map}
use Rattle.store_commands.specs.Lists.{group_entry_line}
use Rattle.store_commands.proofs.LineLemmas.{line_written, lines_written}
use Rattle.store_commands.proofs.lists.groups_text.Goals as goal

pub loop-group-init : goal.loop-group-init
loop-group-init c = ap (λ text. text ++ flat_map group_entry_line c.args.groups.now) c.new-text.ensures.bytes

pub loop-group-preserved : goal.loop-group-preserved
loop-group-preserved c = line_written group_entry_line c.args.groups.now c.loop-group.group-index _ c.loop-group.invariant c.group-item.result _ c.loop-group-test.true c.group-item.is c.in_ok-push_group.ensures

pub returns : goal.returns
returns c = c.from_list.ensures ∙ c.from_vec.ensures ∙ ap (λ text. text.items) c.into_bytes.ensures.value ∙ lines_written group_entry_line c.args.groups.now c.loop-group.group-index _ c.loop-group.invariant c.loop-group-test.false
