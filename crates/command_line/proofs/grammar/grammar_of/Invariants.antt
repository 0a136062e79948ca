use Rattle.std.proofs.Common.{◌≡◌, ◌++◌, false, flat_map, take}
use Rattle.clap.specs.Words.{app_of}
use Rattle.clap.specs.declared.builder.command.Command.TheViews.{out-Command as fields_of}
use Rattle.command_line.specs.Table as table
use Rattle.command_line.proofs.grammar.grammar_of.Given as goal

-- the subcommands of the tables so far
abbrev pub invariant-loop-rows : goal.invariant-loop-rows
invariant-loop-rows l = record {
  app : app_of l.command ≡ table.line_by l.keys (flat_map (λ rows. rows.now) (take l.rows-index l.tables));
  local : (fields_of l.command).has_globals ≡ false;
}

-- and those of the next table so far
abbrev pub invariant-loop-row : goal.invariant-loop-row
invariant-loop-row l = record {
  app : app_of l.command ≡ table.line_by l.keys (flat_map (λ rows. rows.now) (take l.rows-index l.tables) ++ take l.row-index l.row-items);
  local : (fields_of l.command).has_globals ≡ false;
}
