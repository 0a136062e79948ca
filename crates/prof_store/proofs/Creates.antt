-- The tables are made, one after another, each without rows.
use Rattle.std.proofs.Common.{ℕ, List, [], ◌∷◌, ◌++◌, Ok, refl}
use Rattle.sqlite_value.specs.Order.{Row}
use Rattle.sqlite_tied.specs.Compute.{everything}
use Rattle.sqlite.specs.Listing.{understood}
use Rattle.sqlite.specs.State.{State, ExecutesInside}
use Rattle.sql_tables.specs.Contents.{Contain, no_rows, without_content}
use Rattle.sql_tables.specs.States.{Begins, Works}
use Rattle.sql_tables.proofs.Beside.{creates_beside}
use Rattle.sql_tables.proofs.Creates.{creates}
use Rattle.sql_tables.proofs.TableDrops.{drops}
use Rattle.prof_store.specs.Texts.{drop_cell_sql}
use Rattle.prof_store.specs.Schema.{empty_schema, schema_one, meta_sql, meta_table, run_sql, run_table, run_event_sql, run_event_table, derived_sql, derived_table, coef_sql, coef_table, name_sql, name_table, cell_sql, cell_table, arc_sql, arc_table, stack_sql, stack_table, grp_sql, grp_table, member_sql, member_table, schema_to_meta, schema_to_run, schema_to_run_event, schema_to_derived, schema_to_coef, schema_to_name, schema_to_cell, schema_to_arc, schema_to_stack, schema_to_grp, schema_both, schema_two, thread_cell_sql, thread_cell_table, cell_at}
use Rattle.prof_store.proofs.Defines.{meta_is, run_is, run_event_is, derived_is, coef_is, name_is, cell_is, arc_is, stack_is, grp_is, member_is, thread_cell_is}

pub makes_meta : (old new : State) (count : ℕ) → Begins empty_schema old → ExecutesInside 0 meta_sql [] old new (Ok count) → Works schema_to_meta (Contain schema_to_meta (no_rows schema_to_meta.tables)) new
unfolding understood everything
makes_meta = creates empty_schema meta_sql meta_table refl refl (refl, refl) meta_is refl

pub makes_run : (old new : State) (count : ℕ) → Begins schema_to_meta old → ExecutesInside 0 run_sql [] old new (Ok count) → Works schema_to_run (Contain schema_to_run (no_rows schema_to_run.tables)) new
unfolding understood everything
makes_run = creates schema_to_meta run_sql run_table refl refl (refl, refl) run_is refl

pub makes_run_event : (old new : State) (count : ℕ) → Begins schema_to_run old → ExecutesInside 0 run_event_sql [] old new (Ok count) → Works schema_to_run_event (Contain schema_to_run_event (no_rows schema_to_run_event.tables)) new
unfolding understood everything
makes_run_event = creates schema_to_run run_event_sql run_event_table refl refl (refl, refl) run_event_is refl

pub makes_derived : (old new : State) (count : ℕ) → Begins schema_to_run_event old → ExecutesInside 0 derived_sql [] old new (Ok count) → Works schema_to_derived (Contain schema_to_derived (no_rows schema_to_derived.tables)) new
unfolding understood everything
makes_derived = creates schema_to_run_event derived_sql derived_table refl refl (refl, refl) derived_is refl

pub makes_coef : (old new : State) (count : ℕ) → Begins schema_to_derived old → ExecutesInside 0 coef_sql [] old new (Ok count) → Works schema_to_coef (Contain schema_to_coef (no_rows schema_to_coef.tables)) new
unfolding understood everything
makes_coef = creates schema_to_derived coef_sql coef_table refl refl (refl, refl) coef_is refl

pub makes_name : (old new : State) (count : ℕ) → Begins schema_to_coef old → ExecutesInside 0 name_sql [] old new (Ok count) → Works schema_to_name (Contain schema_to_name (no_rows schema_to_name.tables)) new
unfolding understood everything
makes_name = creates schema_to_coef name_sql name_table refl refl (refl, refl) name_is refl

pub makes_cell : (old new : State) (count : ℕ) → Begins schema_to_name old → ExecutesInside 0 cell_sql [] old new (Ok count) → Works schema_to_cell (Contain schema_to_cell (no_rows schema_to_cell.tables)) new
unfolding understood everything
makes_cell = creates schema_to_name cell_sql cell_table refl refl (refl, refl) cell_is refl

pub makes_arc : (old new : State) (count : ℕ) → Begins schema_to_cell old → ExecutesInside 0 arc_sql [] old new (Ok count) → Works schema_to_arc (Contain schema_to_arc (no_rows schema_to_arc.tables)) new
unfolding understood everything
makes_arc = creates schema_to_cell arc_sql arc_table refl refl (refl, refl) arc_is refl

pub makes_stack : (old new : State) (count : ℕ) → Begins schema_to_arc old → ExecutesInside 0 stack_sql [] old new (Ok count) → Works schema_to_stack (Contain schema_to_stack (no_rows schema_to_stack.tables)) new
unfolding understood everything
makes_stack = creates schema_to_arc stack_sql stack_table refl refl (refl, refl) stack_is refl

pub makes_grp : (old new : State) (count : ℕ) → Begins schema_to_stack old → ExecutesInside 0 grp_sql [] old new (Ok count) → Works schema_to_grp (Contain schema_to_grp (no_rows schema_to_grp.tables)) new
unfolding understood everything
makes_grp = creates schema_to_stack grp_sql grp_table refl refl (refl, refl) grp_is refl

pub makes_member : (old new : State) (count : ℕ) → Begins schema_to_grp old → ExecutesInside 0 member_sql [] old new (Ok count) → Works schema_one (Contain schema_one (no_rows schema_one.tables)) new
unfolding understood everything
makes_member = creates schema_to_grp member_sql member_table refl refl (refl, refl) member_is refl

-- ---- version 2, whatever rows the tables have

pub makes_thread_cell : (contents : List (List Row)) (old new : State) (count : ℕ) → Works schema_one (Contain schema_one contents) old → ExecutesInside 0 thread_cell_sql [] old new (Ok count)
    → Works schema_both (Contain schema_both (contents ++ [] ∷ [])) new
unfolding understood everything
makes_thread_cell = creates_beside schema_one thread_cell_sql thread_cell_table refl refl (refl, refl) thread_cell_is refl

pub drops_cell : (contents : List (List Row)) (old new : State) (count : ℕ) → Works schema_both (Contain schema_both contents) old → ExecutesInside 0 drop_cell_sql [] old new (Ok count)
    → Works schema_two (Contain schema_two (without_content 6 contents)) new
unfolding understood everything
drops_cell contents = drops schema_both drop_cell_sql 6 cell_at refl (refl, refl) refl refl refl contents
