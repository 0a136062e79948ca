use Rattle.std.proofs.Common.{true, false}
use Rattle.std.specs.Result.{is_ok}
use Rattle.prof_store.specs.Schema.{empty_schema, schema_to_meta, schema_to_run, schema_to_run_event, schema_to_derived, meta_sql, run_sql, run_event_sql, derived_sql}
use Rattle.prof_store.proofs.Creates.{makes_meta, makes_run, makes_run_event, makes_derived}
use Rattle.prof_store.proofs.Parts.{table_made, tables_then, makes_err, then_err}
use Rattle.sql_tables.specs.States.{Begins, Works}
use Rattle.prof_store.specs.Making.{AreEmpty}
use Rattle.prof_store.proofs.making.make_first_tables.Goals as goal

pub returns : goal.returns
returns g c =
    let one = table_made g.S.Store meta_sql empty_schema schema_to_meta makes_meta true _ _ c.in_ok-write_inside.ensures in
    let two = tables_then g.S.Store true empty_schema schema_to_meta schema_to_run _ _ _ one (table_made g.S.Store run_sql schema_to_meta schema_to_run makes_run true _ _ c.in_ok-write_inside-2.ensures) in
    let three = tables_then g.S.Store true empty_schema schema_to_run schema_to_run_event _ _ _ two (table_made g.S.Store run_event_sql schema_to_run schema_to_run_event makes_run_event true _ _ c.in_ok-write_inside-3.ensures) in
    tables_then g.S.Store (is_ok c.write_inside-4.result) empty_schema schema_to_run_event schema_to_derived _ _ _ three (table_made g.S.Store derived_sql schema_to_run_event schema_to_derived makes_derived (is_ok c.write_inside-4.result) _ _ c.write_inside-4.ensures)

pub returns-in_err-write_inside : goal.returns-in_err-write_inside
returns-in_err-write_inside g c =
    makes_err g.S.Store c.from_residual.result false (Begins empty_schema) (Works schema_to_meta (AreEmpty schema_to_meta)) _ _ _ _ c.from_residual.ensures.0
    (table_made g.S.Store meta_sql empty_schema schema_to_meta makes_meta false _ _ c.in_err-write_inside.ensures)

pub returns-in_err-write_inside-2 : goal.returns-in_err-write_inside-2
returns-in_err-write_inside-2 g c =
    let one = table_made g.S.Store meta_sql empty_schema schema_to_meta makes_meta true _ _ c.in_ok-write_inside.ensures in
    then_err g.S.Store c.from_residual-in_err-write_inside-2.result (Begins empty_schema) (Works schema_to_meta (AreEmpty schema_to_meta)) (Begins schema_to_meta) (Works schema_to_run (AreEmpty schema_to_run)) _ _ _ _ _ c.from_residual-in_err-write_inside-2.ensures.0 one
    (table_made g.S.Store run_sql schema_to_meta schema_to_run makes_run false _ _ c.in_err-write_inside-2.ensures)

pub returns-in_err-write_inside-3 : goal.returns-in_err-write_inside-3
returns-in_err-write_inside-3 g c =
    let one = table_made g.S.Store meta_sql empty_schema schema_to_meta makes_meta true _ _ c.in_ok-write_inside.ensures in
    let two = tables_then g.S.Store true empty_schema schema_to_meta schema_to_run _ _ _ one (table_made g.S.Store run_sql schema_to_meta schema_to_run makes_run true _ _ c.in_ok-write_inside-2.ensures) in
    then_err g.S.Store c.from_residual-in_err-write_inside-3.result (Begins empty_schema) (Works schema_to_run (AreEmpty schema_to_run)) (Begins schema_to_run) (Works schema_to_run_event (AreEmpty schema_to_run_event)) _ _ _ _ _ c.from_residual-in_err-write_inside-3.ensures.0 two
    (table_made g.S.Store run_event_sql schema_to_run schema_to_run_event makes_run_event false _ _ c.in_err-write_inside-3.ensures)
