-- What the texts that make the tables define, computed.
use Rattle.std.proofs.Common.{◌≡◌, Ok, refl}
use Rattle.sqlite_resolve.specs.Compile.{table_defined_by}
use Rattle.sqlite_tied.specs.Compute.{everything}
use Rattle.prof_store.specs.Schema.{meta_sql, meta_table, run_sql, run_table, run_event_sql, run_event_table, derived_sql, derived_table, coef_sql, coef_table, name_sql, name_table, cell_sql, cell_table, arc_sql, arc_table, stack_sql, stack_table, grp_sql, grp_table, member_sql, member_table, thread_cell_sql, thread_cell_table}

pub meta_is : table_defined_by meta_sql ≡ Ok meta_table
unfolding everything
meta_is = refl

pub run_is : table_defined_by run_sql ≡ Ok run_table
unfolding everything
run_is = refl

pub run_event_is : table_defined_by run_event_sql ≡ Ok run_event_table
unfolding everything
run_event_is = refl

pub derived_is : table_defined_by derived_sql ≡ Ok derived_table
unfolding everything
derived_is = refl

pub coef_is : table_defined_by coef_sql ≡ Ok coef_table
unfolding everything
coef_is = refl

pub name_is : table_defined_by name_sql ≡ Ok name_table
unfolding everything
name_is = refl

pub cell_is : table_defined_by cell_sql ≡ Ok cell_table
unfolding everything
cell_is = refl

pub arc_is : table_defined_by arc_sql ≡ Ok arc_table
unfolding everything
arc_is = refl

pub stack_is : table_defined_by stack_sql ≡ Ok stack_table
unfolding everything
stack_is = refl

pub grp_is : table_defined_by grp_sql ≡ Ok grp_table
unfolding everything
grp_is = refl

pub member_is : table_defined_by member_sql ≡ Ok member_table
unfolding everything
member_is = refl

pub thread_cell_is : table_defined_by thread_cell_sql ≡ Ok thread_cell_table
unfolding everything
thread_cell_is = refl
