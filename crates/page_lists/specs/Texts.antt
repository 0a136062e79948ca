-- The texts that make the tables of schema 2, in its order, and what is found of them.
use Rattle.std.specs.Prelude.{ℕ, Bool, true, false, List, [], ◌∷◌, map, slice_index_or, Result, Ok, Err}
use Rattle.sqlite_schema.specs.declared.schema.Table.{Table}
use Rattle.page_places.specs.Failures.{failure_of}
use Rattle.page_rows.specs.declared.errors.WalkError.{WalkError}
use Rattle.page_rows.specs.declared.errors.WalkError.TheVariants.{Pages, Refused}
use Rattle.plain_tables.specs.declared.errors.StoreError.{StoreError}
use Rattle.plain_tables.specs.declared.errors.StoreError.TheVariants.{Memory, Store}
use Rattle.prof_store.specs.Schema.{schema_two, meta_sql, run_sql, run_event_sql, derived_sql, coef_sql, name_sql, arc_sql, stack_sql, grp_sql, member_sql, thread_cell_sql}
use Rattle.page_lists.specs.declared.texts.Found.{Found}
use Rattle.page_lists.specs.declared.texts.Found.TheVariants.{Ours, OursWithMore, Others}

abbrev pub table_texts : List (List ℕ)
table_texts = meta_sql ∷ run_sql ∷ run_event_sql ∷ derived_sql ∷ coef_sql ∷ name_sql ∷ arc_sql ∷ stack_sql ∷ grp_sql ∷ member_sql ∷ thread_cell_sql ∷ []

-- the names of the tables
abbrev pub table_names : List (List ℕ)
table_names = map (λ (table : Table). table.name) schema_two.tables

-- our text of the table at a place
unfoldable pub our_text : ℕ → List ℕ
our_text at = slice_index_or table_texts at []

-- whether what stands on our tables is ours too: where the tables are not ours, the store fails
abbrev pub alone_in : Found → Result Bool StoreError
alone_in Ours = Ok true
alone_in OursWithMore = Ok false
alone_in Others = Err Store

-- what ended a walk over the entries of tables, which are refused for want of memory alone
abbrev pub failure_of_entries : {E : Type 0} → WalkError E → StoreError
failure_of_entries (Pages error) = failure_of error
failure_of_entries (Refused error) = Memory
