use Rattle.std.proofs.Common.{true, false}
use Rattle.std.specs.Result.{is_ok}
use Rattle.sql_tables.specs.States.{Begins, Works}
use Rattle.prof_store.specs.Schema.{empty_schema, schema_to_derived, schema_to_arc, schema_one, schema_two}
use Rattle.plain_tables.specs.Tables.{new_tables}
use Rattle.prof_store.specs.Tables.{Holds}
use Rattle.prof_store.specs.Making.{AreEmpty}
use Rattle.prof_store.proofs.Parts.{makes_err, makes_then, tables_then, then_err}
use Rattle.prof_store.proofs.making.fill_new.Goals as goal

pub returns : goal.returns
returns g c =
    let one = c.in_ok-make_first_tables.ensures in
    let two = tables_then g.S.Store true empty_schema schema_to_derived schema_to_arc _ _ _ one c.in_ok-make_row_tables.ensures in
    let three = tables_then g.S.Store true empty_schema schema_to_arc schema_one _ _ _ two c.in_ok-make_last_tables.ensures in
    let four = makes_then g.S.Store true (Begins empty_schema) (Works schema_one (AreEmpty schema_one)) (Works schema_one (AreEmpty schema_one)) (Works schema_two (AreEmpty schema_two)) _ _ _ three c.in_ok-bring_up.ensures (λ s it. it) in
    makes_then g.S.Store (is_ok c.begin_meta.result) (Begins empty_schema) (Works schema_two (AreEmpty schema_two)) (Works schema_two (AreEmpty schema_two)) (Works schema_two (Holds new_tables)) _ _ _ four c.begin_meta.ensures (λ s it. it)

pub returns-in_err-make_first_tables : goal.returns-in_err-make_first_tables
returns-in_err-make_first_tables g c = makes_err g.S.Store c.from_residual.result false (Begins empty_schema) (Works schema_to_derived (AreEmpty schema_to_derived)) _ _ _ _ c.from_residual.ensures.0 c.in_err-make_first_tables.ensures

pub returns-in_err-make_row_tables : goal.returns-in_err-make_row_tables
returns-in_err-make_row_tables g c =
    then_err g.S.Store c.from_residual-in_err-make_row_tables.result (Begins empty_schema) (Works schema_to_derived (AreEmpty schema_to_derived)) (Begins schema_to_derived) (Works schema_to_arc (AreEmpty schema_to_arc)) _ _ _ _ _ c.from_residual-in_err-make_row_tables.ensures.0
    c.in_ok-make_first_tables.ensures c.in_err-make_row_tables.ensures

pub returns-in_err-make_last_tables : goal.returns-in_err-make_last_tables
returns-in_err-make_last_tables g c =
    let two = tables_then g.S.Store true empty_schema schema_to_derived schema_to_arc _ _ _ c.in_ok-make_first_tables.ensures c.in_ok-make_row_tables.ensures in
    then_err g.S.Store c.from_residual-in_err-make_last_tables.result (Begins empty_schema) (Works schema_to_arc (AreEmpty schema_to_arc)) (Begins schema_to_arc) (Works schema_one (AreEmpty schema_one)) _ _ _ _ _ c.from_residual-in_err-make_last_tables.ensures.0
    two c.in_err-make_last_tables.ensures

pub returns-in_err-bring_up : goal.returns-in_err-bring_up
returns-in_err-bring_up g c =
    let two = tables_then g.S.Store true empty_schema schema_to_derived schema_to_arc _ _ _ c.in_ok-make_first_tables.ensures c.in_ok-make_row_tables.ensures in
    let three = tables_then g.S.Store true empty_schema schema_to_arc schema_one _ _ _ two c.in_ok-make_last_tables.ensures in
    then_err g.S.Store c.from_residual-in_err-bring_up.result (Begins empty_schema) (Works schema_one (AreEmpty schema_one)) (Works schema_one (AreEmpty schema_one)) (Works schema_two (AreEmpty schema_two)) _ _ _ _ _ c.from_residual-in_err-bring_up.ensures.0
    three c.in_err-bring_up.ensures
