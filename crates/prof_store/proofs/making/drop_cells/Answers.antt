use Rattle.std.proofs.Common.{[]}
use Rattle.std.specs.Result.{is_ok}
use Rattle.sql_tables.specs.Contents.{Contain, without_content}
use Rattle.sql_tables.specs.States.{Works}
use Rattle.prof_store.specs.Schema.{schema_both, schema_two}
use Rattle.prof_store.specs.Texts.{drop_cell_sql}
use Rattle.prof_store.proofs.Creates.{drops_cell}
use Rattle.prof_store.proofs.Parts.{makes_any, statement_makes}
use Rattle.prof_store.proofs.making.drop_cells.Goals as goal

pub returns-clause-makes : goal.returns-clause-makes
returns-clause-makes g c contents =
    statement_makes g.S.Store drop_cell_sql (Works schema_both (Contain schema_both contents)) (Works schema_two (Contain schema_two (without_content 6 contents))) (λ s was. was.running) (drops_cell contents) (is_ok c.write_inside.result) _ _ c.write_inside.ensures

pub returns-clause-keeps : goal.returns-clause-keeps
returns-clause-keeps g c = makes_any g.S.Store _ _ _ _ _ (returns-clause-makes g c [])
