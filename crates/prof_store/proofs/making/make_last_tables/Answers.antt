use Rattle.std.proofs.Common.{true, false}
use Rattle.std.specs.Result.{is_ok}
use Rattle.prof_store.specs.Schema.{schema_to_arc, schema_to_stack, schema_to_grp, schema_one, stack_sql, grp_sql, member_sql}
use Rattle.prof_store.proofs.Creates.{makes_stack, makes_grp, makes_member}
use Rattle.prof_store.proofs.Parts.{table_made, tables_then, makes_err, then_err}
use Rattle.sql_tables.specs.States.{Begins, Works}
use Rattle.prof_store.specs.Making.{AreEmpty}
use Rattle.prof_store.proofs.making.make_last_tables.Goals as goal

pub returns : goal.returns
returns g c =
    let one = table_made g.S.Store stack_sql schema_to_arc schema_to_stack makes_stack true _ _ c.in_ok-write_inside.ensures in
    let two = tables_then g.S.Store true schema_to_arc schema_to_stack schema_to_grp _ _ _ one (table_made g.S.Store grp_sql schema_to_stack schema_to_grp makes_grp true _ _ c.in_ok-write_inside-2.ensures) in
    tables_then g.S.Store (is_ok c.write_inside-3.result) schema_to_arc schema_to_grp schema_one _ _ _ two (table_made g.S.Store member_sql schema_to_grp schema_one makes_member (is_ok c.write_inside-3.result) _ _ c.write_inside-3.ensures)

pub returns-in_err-write_inside : goal.returns-in_err-write_inside
returns-in_err-write_inside g c =
    makes_err g.S.Store c.from_residual.result false (Begins schema_to_arc) (Works schema_to_stack (AreEmpty schema_to_stack)) _ _ _ _ c.from_residual.ensures.0
    (table_made g.S.Store stack_sql schema_to_arc schema_to_stack makes_stack false _ _ c.in_err-write_inside.ensures)

pub returns-in_err-write_inside-2 : goal.returns-in_err-write_inside-2
returns-in_err-write_inside-2 g c =
    let one = table_made g.S.Store stack_sql schema_to_arc schema_to_stack makes_stack true _ _ c.in_ok-write_inside.ensures in
    then_err g.S.Store c.from_residual-in_err-write_inside-2.result (Begins schema_to_arc) (Works schema_to_stack (AreEmpty schema_to_stack)) (Begins schema_to_stack) (Works schema_to_grp (AreEmpty schema_to_grp)) _ _ _ _ _ c.from_residual-in_err-write_inside-2.ensures.0 one
    (table_made g.S.Store grp_sql schema_to_stack schema_to_grp makes_grp false _ _ c.in_err-write_inside-2.ensures)
