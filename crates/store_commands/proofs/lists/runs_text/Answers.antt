use Rattle.std.proofs.Common.{◌++◌, ap, ◌∙◌, flat_map}
use Rattle.store_commands.specs.Lists.{entry_line}
use Rattle.store_commands.proofs.LineLemmas.{line_written, lines_written}
use Rattle.store_commands.proofs.lists.runs_text.Goals as goal

pub loop-run-init : goal.loop-run-init
loop-run-init c = ap (λ text. text ++ flat_map entry_line c.args.runs.now) c.new-text.ensures.bytes

pub loop-run-preserved : goal.loop-run-preserved
loop-run-preserved c = line_written entry_line c.args.runs.now c.loop-run.run-index _ c.loop-run.invariant c.run-item.result _ c.loop-run-test.true c.run-item.is c.in_ok-push_run.ensures

pub returns : goal.returns
returns c = c.from_list.ensures ∙ c.from_vec.ensures ∙ ap (λ text. text.items) c.into_bytes.ensures.value ∙ lines_written entry_line c.args.runs.now c.loop-run.run-index _ c.loop-run.invariant c.loop-run-test.false
