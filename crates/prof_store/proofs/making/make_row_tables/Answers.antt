use Rattle.std.proofs.Common.{true, false}
use Rattle.std.specs.Result.{is_ok}
use Rattle.prof_store.specs.Schema.{schema_to_derived, schema_to_coef, schema_to_name, schema_to_cell, schema_to_arc, coef_sql, name_sql, cell_sql, arc_sql}
use Rattle.prof_store.proofs.Creates.{makes_coef, makes_name, makes_cell, makes_arc}
use Rattle.prof_store.proofs.Parts.{table_made, tables_then, makes_err, then_err}
use Rattle.sql_tables.specs.States.{Begins, Works}
use Rattle.prof_store.specs.Making.{AreEmpty}
use Rattle.prof_store.proofs.making.make_row_tables.Goals as goal

pub returns : goal.returns
returns g c =
    let one = table_made g.S.Store coef_sql schema_to_derived schema_to_coef makes_coef true _ _ c.in_ok-write_inside.ensures in
    let two = tables_then g.S.Store true schema_to_derived schema_to_coef schema_to_name _ _ _ one (table_made g.S.Store name_sql schema_to_coef schema_to_name makes_name true _ _ c.in_ok-write_inside-2.ensures) in
    let three = tables_then g.S.Store true schema_to_derived schema_to_name schema_to_cell _ _ _ two (table_made g.S.Store cell_sql schema_to_name schema_to_cell makes_cell true _ _ c.in_ok-write_inside-3.ensures) in
    tables_then g.S.Store (is_ok c.write_inside-4.result) schema_to_derived schema_to_cell schema_to_arc _ _ _ three (table_made g.S.Store arc_sql schema_to_cell schema_to_arc makes_arc (is_ok c.write_inside-4.result) _ _ c.write_inside-4.ensures)

pub returns-in_err-write_inside : goal.returns-in_err-write_inside
returns-in_err-write_inside g c =
    makes_err g.S.Store c.from_residual.result false (Begins schema_to_derived) (Works schema_to_coef (AreEmpty schema_to_coef)) _ _ _ _ c.from_residual.ensures.0
    (table_made g.S.Store coef_sql schema_to_derived schema_to_coef makes_coef false _ _ c.in_err-write_inside.ensures)

pub returns-in_err-write_inside-2 : goal.returns-in_err-write_inside-2
returns-in_err-write_inside-2 g c =
    let one = table_made g.S.Store coef_sql schema_to_derived schema_to_coef makes_coef true _ _ c.in_ok-write_inside.ensures in
    then_err g.S.Store c.from_residual-in_err-write_inside-2.result (Begins schema_to_derived) (Works schema_to_coef (AreEmpty schema_to_coef)) (Begins schema_to_coef) (Works schema_to_name (AreEmpty schema_to_name)) _ _ _ _ _ c.from_residual-in_err-write_inside-2.ensures.0 one
    (table_made g.S.Store name_sql schema_to_coef schema_to_name makes_name false _ _ c.in_err-write_inside-2.ensures)

pub returns-in_err-write_inside-3 : goal.returns-in_err-write_inside-3
returns-in_err-write_inside-3 g c =
    let one = table_made g.S.Store coef_sql schema_to_derived schema_to_coef makes_coef true _ _ c.in_ok-write_inside.ensures in
    let two = tables_then g.S.Store true schema_to_derived schema_to_coef schema_to_name _ _ _ one (table_made g.S.Store name_sql schema_to_coef schema_to_name makes_name true _ _ c.in_ok-write_inside-2.ensures) in
    then_err g.S.Store c.from_residual-in_err-write_inside-3.result (Begins schema_to_derived) (Works schema_to_name (AreEmpty schema_to_name)) (Begins schema_to_name) (Works schema_to_cell (AreEmpty schema_to_cell)) _ _ _ _ _ c.from_residual-in_err-write_inside-3.ensures.0 two
    (table_made g.S.Store cell_sql schema_to_name schema_to_cell makes_cell false _ _ c.in_err-write_inside-3.ensures)
