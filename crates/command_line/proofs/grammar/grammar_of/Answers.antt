use Rattle.std.proofs.Common.{flat_map, rules, take}
use Rattle.clap.specs.Words.{app_of}
use Rattle.command_line.proofs.GrammarLemmas.{has_got, row_more, table_begun, table_more}
use Rattle.command_line.proofs.grammar.grammar_of.Goals as goal

pub loop-row-init : goal.loop-row-init
loop-row-init c = record {
  app = table_begun c.args.keys (flat_map (λ rows. rows.now) (take c.loop-rows.rows-index c.args.tables.now)) (app_of c.loop-rows.command) c.loop-rows.invariant.app;
  local = c.loop-rows.invariant.local;
}

pub loop-row-preserved : goal.loop-row-preserved
loop-row-preserved c = record {
  app = row_more c.args.keys (flat_map (λ rows. rows.now) (take c.loop-rows.rows-index c.args.tables.now)) _ c.loop-row.row-index _ (app_of c.loop-row.command) (app_of c.in_ok-command.command) c.loop-row-test.true
      c.loop-row.invariant.app
      (has_got c.command_for.result (app_of c.in_ok-command.command) (app_of c.loop-row.command) _ c.in_ok-command.ensures.app c.command_for.ensures.app);
  local = search rules;
}

pub loop-rows-preserved : goal.loop-rows-preserved
loop-rows-preserved c = record {
  app = table_more c.args.keys c.args.tables.now c.loop-rows.rows-index c.loop-row.row-index _ (app_of c.loop-row.command) c.loop-rows-test.true c.loop-row-test.false c.loop-row.invariant.app;
  local = c.loop-row.invariant.local;
}
