use Rattle.std.proofs.Common.{rules, ap, ◌∙◌}
use Rattle.clap.specs.Words.{Rule, app_of, with_rule}
use Rattle.command_line.proofs.GrammarLemmas.{arg_more}
use Rattle.command_line.proofs.grammar.command_for.Goals as goal

pub loop-given-preserved : goal.loop-given-preserved
loop-given-preserved c = record {
  app = arg_more c.args.keys c.args.row.name.now c.args.row.arguments.now c.loop-given.given-index _ (app_of c.loop-given.command) (app_of c.in_ok-command.command) (search rules)
      c.loop-given.invariant.app
      (c.in_ok-command.ensures.shape c.arg_for.ensures.local ∙ ap (λ (r : Rule). with_rule (app_of c.loop-given.command) r) c.arg_for.ensures.rule);
  local = search rules;
}
