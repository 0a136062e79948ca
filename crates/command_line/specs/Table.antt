-- What the table of the grammar says, as clap's definitions see it.
use Rattle.std.specs.Prelude.{true, pos, List, [], ◌∷◌, fold, map, Option, Some, None}
use Rattle.clap.specs.Words.{App, Rule, Text}
use Rattle.clap.specs.declared.builder.value_parser.ValueParser.{ValueParser}
use Rattle.clap.specs.declared.builder.value_parser.ValueParser.TheVariants.{Signed}
use Rattle.std.specs.Borrow.{Bor}
use Rattle.command_line.specs.declared.grammar.Argument.{Argument}
use Rattle.command_line.specs.declared.grammar.Form.{Form}
use Rattle.command_line.specs.declared.grammar.Form.TheVariants as forms
use Rattle.command_line.specs.declared.grammar.Subcommand.{Subcommand}
use Rattle.command_line.specs.declared.grammar.Takes.{Takes}
use Rattle.command_line.specs.declared.grammar.Takes.TheVariants as takes
use Rattle.command_line.specs.Grammar.{app_with, flag, operand, option, program, several, with_row}

abbrev pub formed : Form → Text → Rule
formed forms.Flag id = flag id
formed (forms.Option value) id = option id
formed (forms.Required value) id = record (option id) { required = true }
formed forms.Operand id = operand id
formed forms.Operands id = several (operand id)

-- with the words that it takes, which are those of keys by a parser
abbrev pub taking : ValueParser → Takes → Rule → Rule
taking keys takes.Texts rule = rule
taking keys (takes.Numbers least most) rule = record rule { parser = Some (Signed (pos least) (pos most)) }
taking keys takes.Keys rule = record rule { parser = Some keys }

-- with the default that it has
abbrev pub by_default : Option (Bor Text) → Rule → Rule
by_default None rule = rule
by_default (Some value) rule = record rule { defaults = value.now ∷ [] }

abbrev pub rule_by : ValueParser → Argument → Rule
rule_by keys a = by_default a.default (taking keys a.takes (formed a.form a.id.now))

-- a subcommand with its arguments
abbrev pub row_by : ValueParser → Subcommand → Text × List Rule
row_by keys s = (s.name.now, map (rule_by keys) s.arguments.now)

abbrev pub app_by : ValueParser → Subcommand → App
app_by keys s = app_with (row_by keys s).0 (row_by keys s).1

-- the program's own command with these subcommands
abbrev pub line_by : ValueParser → List Subcommand → App
line_by keys table = fold with_row program (map (row_by keys) table)
