-- SELECT from one table.
use Rattle.std.proofs.Common.{◌≡◌, ℕ, false, List, [], ◌∷◌, Ok, subst}
use Rattle.sqlite_value.specs.declared.value.Value.TheVariants.{Null}
use Rattle.sqlite_value.specs.declared.keys.Key.{Key}
use Rattle.sqlite_value.specs.Order.{Row}
use Rattle.sqlite_sql.specs.Term.{Term}
use Rattle.sqlite_sql.specs.Program.{overlay}
use Rattle.sqlite_schema.specs.declared.schema.Schema.{Schema}
use Rattle.sqlite_schema.specs.declared.command.Command.TheVariants.{Select}
use Rattle.sqlite.specs.Listing.{understood, reads_listing}
use Rattle.sqlite.specs.State.{State, Shown, QueriesRow}
use Rattle.sqlite.proofs.Callers.{IsPlain, command_of, first_as, reads_as}
use Rattle.sql_tables.specs.Queries.{only}
use Rattle.sql_tables.proofs.Queries.{Selects, selects, sorted_scan}

-- a text that selects from a tree
module _ (schema : Schema) (sql : List ℕ) (tree : ℕ) (terms project : List Term) (order : List (Term × Key)) (names : List (List ℕ)) (means : command_of (understood schema sql) ≡ Select (only (sorted_scan tree terms project order)) names)
    (plain : IsPlain (understood schema sql)) (unlisted : reads_listing schema sql ≡ false) (old new : State) (has : old.now.schema ≡ schema) (seen : overlay old.now.trees [] tree ≡ old.now.trees tree) where
  -- all rows
  pub selected : (params : Row) (rows : List Row) → Shown sql params old new rows → Selects tree terms project order (old.now.trees tree) params rows
  selected params rows h =
      let read = reads_as sql params old new schema has _ means plain unlisted rows h in
      subst (λ l. Selects tree terms project order l params rows) seen (selects tree terms project order (overlay old.now.trees []) params rows (read.answer Null))

  -- the first row, before others
  pub selected_first : (params : Row) (row : Row) → QueriesRow sql params old new (Ok row) → (more : List Row) × Selects tree terms project order (old.now.trees tree) params (row ∷ more)
  selected_first params row h =
      let read = first_as sql params old new schema has _ means plain unlisted row h in
      (read.1.0, subst (λ l. Selects tree terms project order l params (row ∷ read.1.0)) seen (selects tree terms project order (overlay old.now.trees []) params (row ∷ read.1.0) (read.1.1 Null)))
