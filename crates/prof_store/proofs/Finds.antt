-- What the texts that read find in the tables.
use Rattle.std.proofs.Common.{◌≡◌, [], ◌∷◌, codes, false, Ok, inl, refl, ap, subst}
use Rattle.sqlite_value.specs.Order.{Row, column}
use Rattle.sqlite_trees.specs.Tree.{Trees}
use Rattle.sqlite_rules.specs.Lists.{Has}
use Rattle.sqlite_rules.proofs.ProbeLemmas.{has_mapped}
use Rattle.sqlite_schema.specs.declared.schema.Schema.{Schema}
use Rattle.sqlite_schema.specs.declared.command.Command.TheVariants.{Select}
use Rattle.sqlite.specs.Listing.{understood, reads_listing}
use Rattle.sqlite.specs.State.{State, QueriesRow, Shown}
use Rattle.sqlite.proofs.Callers.{IsPlain, command_of}
use Rattle.sql_tables.specs.Queries.{only}
use Rattle.sql_tables.proofs.Queries.{shown_row, row_shown, sorted_scan}
use Rattle.sql_tables.proofs.Selects.{selected, selected_first}
use Rattle.prof_store.specs.Schema.{schema_one, schema_two}
use Rattle.plain_tables.specs.Tables.{Tables, RunRow}
use Rattle.prof_store.specs.Tables.{Holds, run_columns}
use Rattle.prof_store.specs.Texts.{schema_sql}
use Rattle.prof_store.proofs.Means.{schema_terms, schema_shown, schema_order, schema_means, schema_plain, schema_unlisted, first_schema_means, first_schema_plain, first_schema_unlisted}

-- ---- the one row of meta

-- the number of the schema, in tables of one that understands the query for it
module _ (schema : Schema) (means : command_of (understood schema schema_sql) ≡ Select (only (sorted_scan 0 schema_terms schema_shown schema_order)) (codes "schema" ∷ [])) (plain : IsPlain (understood schema schema_sql))
    (unlisted : reads_listing schema schema_sql ≡ false) (old new : State) (has : old.now.schema ≡ schema) where
  number_found : (row : Row) → QueriesRow schema_sql [] old new (Ok row) → (r : Row) × Has (old.now.trees 0) r × (column row 0 ≡ column r 2)
  number_found row h =
      let s = selected_first schema schema_sql 0 schema_terms schema_shown schema_order _ means plain unlisted old new has refl [] row h in
      let it = shown_row 0 schema_terms schema_shown schema_order (old.now.trees 0) [] (row ∷ s.0) s.1 row (inl refl) in
      (it.0, it.1, ap (λ l. column l 0) it.3)

  -- a row that is there is shown
  pub row_there : (r : Row) → Has (old.now.trees 0) r → Shown schema_sql [] old new [] → ⊥
  row_there r there none =
      let s = selected schema schema_sql 0 schema_terms schema_shown schema_order _ means plain unlisted old new has refl [] [] none in
      row_shown 0 schema_terms schema_shown schema_order (old.now.trees 0) [] [] s r there refl

pub schema_found : (old new : State) (row : Row) → old.now.schema ≡ schema_two → QueriesRow schema_sql [] old new (Ok row) → (r : Row) × Has (old.now.trees 0) r × (column row 0 ≡ column r 2)
schema_found old new row has h = number_found schema_two schema_means schema_plain schema_unlisted old new has row h

pub first_schema_found : (old new : State) (row : Row) → old.now.schema ≡ schema_one → QueriesRow schema_sql [] old new (Ok row) → (r : Row) × Has (old.now.trees 0) r × (column row 0 ≡ column r 2)
first_schema_found old new row has h = number_found schema_one first_schema_means first_schema_plain first_schema_unlisted old new has row h

-- ---- the runs

pub run_row : (t : Tables) (db : Trees) (r : Row) → Holds t db → Has (db 1) r → (line : RunRow) × Has t.runs line × (r ≡ run_columns line)
run_row t db r was there = has_mapped run_columns t.runs r (subst (λ l. Has l r) was.contain.contents_are.1.0.rows_are there)
