use Rattle.std.proofs.Common.{flat_map}
use Rattle.command_line.proofs.GrammarLemmas.{line_made}
use Rattle.command_line.proofs.grammar.grammar.Goals as goal

pub returns-clause-app : goal.returns-clause-app
returns-clause-app c =
    line_made c.grammar_of.result c.keys.result (flat_map (λ rows. rows.now) c.subcommands.result) c.keys.ensures (c.subcommands.ensures c.keys.result) c.grammar_of.ensures.app
