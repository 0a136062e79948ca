use Rattle.std.proofs.Common.{◌≡◌, false, map, take}
use Rattle.clap.specs.Words.{app_of}
use Rattle.clap.specs.declared.builder.command.Command.TheViews.{out-Command as fields_of}
use Rattle.command_line.specs.Grammar as line
use Rattle.command_line.specs.Table as table
use Rattle.command_line.proofs.grammar.command_for.Given as goal

-- the arguments so far
abbrev pub invariant-loop-given : goal.invariant-loop-given
invariant-loop-given l = record {
  app : app_of l.command ≡ line.app_with l.row.name.now (map (table.rule_by l.keys) (take l.given-index l.row.arguments.now));
  local : (fields_of l.command).has_globals ≡ false;
}
