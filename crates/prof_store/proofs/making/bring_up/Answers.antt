use Rattle.std.proofs.Common.{false}
use Rattle.std.specs.Result.{is_ok}
use Rattle.sql_tables.specs.Contents.{no_rows}
use Rattle.sql_tables.specs.States.{Works}
use Rattle.prof_store.specs.Schema.{schema_one, schema_both, schema_two}
use Rattle.prof_store.specs.Making.{AreEmpty}
use Rattle.prof_store.proofs.Parts.{makes_err, makes_then}
use Rattle.prof_store.proofs.making.bring_up.Goals as goal

pub returns : goal.returns
returns g c =
    makes_then g.S.Store (is_ok c.drop_cells.result) (Works schema_one (AreEmpty schema_one)) (Works schema_both (AreEmpty schema_both)) (Works schema_both (AreEmpty schema_both)) (Works schema_two (AreEmpty schema_two)) _ _ _
    (c.in_ok-make_thread_cells.ensures.makes (no_rows schema_one.tables)) (c.drop_cells.ensures.makes (no_rows schema_both.tables)) (λ s it. it)

pub returns-in_err-make_thread_cells : goal.returns-in_err-make_thread_cells
returns-in_err-make_thread_cells g c =
    makes_err g.S.Store c.from_residual.result false (λ _. ⊥) (λ _. ⊥) _ _ _ _ c.from_residual.ensures.0 c.in_err-make_thread_cells.ensures.keeps
