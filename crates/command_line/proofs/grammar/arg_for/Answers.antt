use Rattle.std.proofs.Common.{◌≡◌, ap, ◌∙◌}
use Rattle.clap.specs.Words.{Rule, rule_of}
use Rattle.clap.specs.declared.builder.arg.Arg.{Arg}
use Rattle.command_line.specs.Table as table
use Rattle.command_line.proofs.GrammarLemmas.{with_default, without_default}
use Rattle.command_line.proofs.grammar.arg_for.Goals as goal

pub returns-in-Some-clause-rule : goal.returns-in-Some-clause-rule
returns-in-Some-clause-rule c =
    let known : Rule = table.taking c.args.keys c.args.argument.takes (table.formed c.args.argument.form c.args.argument.id.now) in
    let taken : rule_of c.help-arg.result ≡ known =
    ap (λ (a : Arg). rule_of a) c.help-arg.ensures ∙ c.taking.ensures.rule ∙ ap (λ (r : Rule). table.taking c.args.keys c.args.argument.takes r) c.formed.ensures.rule in
    ap (λ (a : Arg). rule_of a) c.default_value.ensures ∙ with_default c.args.argument.default c.in-Some.value (rule_of c.help-arg.result) known c.in-Some.is taken

pub returns-in-None-clause-rule : goal.returns-in-None-clause-rule
returns-in-None-clause-rule c =
    let known : Rule = table.taking c.args.keys c.args.argument.takes (table.formed c.args.argument.form c.args.argument.id.now) in
    let taken : rule_of c.help-arg.result ≡ known =
    ap (λ (a : Arg). rule_of a) c.help-arg.ensures ∙ c.taking.ensures.rule ∙ ap (λ (r : Rule). table.taking c.args.keys c.args.argument.takes r) c.formed.ensures.rule in
    without_default c.args.argument.default (rule_of c.help-arg.result) known c.in-None.is taken
