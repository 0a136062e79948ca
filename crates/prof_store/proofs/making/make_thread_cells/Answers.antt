use Rattle.std.proofs.Common.{[], ◌∷◌, ◌++◌}
use Rattle.std.specs.Result.{is_ok}
use Rattle.sql_tables.specs.Contents.{Contain}
use Rattle.sql_tables.specs.States.{Works}
use Rattle.prof_store.specs.Schema.{schema_one, schema_both, thread_cell_sql}
use Rattle.prof_store.proofs.Creates.{makes_thread_cell}
use Rattle.prof_store.proofs.Parts.{makes_any, statement_makes}
use Rattle.prof_store.proofs.making.make_thread_cells.Goals as goal

pub returns-clause-makes : goal.returns-clause-makes
returns-clause-makes g c contents =
    statement_makes g.S.Store thread_cell_sql (Works schema_one (Contain schema_one contents)) (Works schema_both (Contain schema_both (contents ++ [] ∷ []))) (λ s was. was.running) (makes_thread_cell contents) (is_ok c.write_inside.result) _ _ c.write_inside.ensures

pub returns-clause-keeps : goal.returns-clause-keeps
returns-clause-keeps g c = makes_any g.S.Store _ _ _ _ _ (returns-clause-makes g c [])
