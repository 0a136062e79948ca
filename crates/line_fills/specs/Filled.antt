-- Rows stand behind those of a table, and their entries in its indexes.
use Rattle.std.specs.Prelude.{◌≡◌, ℕ, List, ◌∷◌, ◌++◌, length, map, Result, MatchResult}
use Rattle.std.specs.List.{AllByRecursion}
use Rattle.sqlite_disk.specs.declared.Disk.{Ghosts}
use Rattle.sqlite_schema.specs.declared.schema.Index.{Index}
use Rattle.sqlite_schema.specs.declared.schema.Schema.{Schema}
use Rattle.sqlite_schema.specs.declared.schema.Table.{Table}
use Rattle.sqlite_store.specs.declared.catalog.Wanted.{Wanted}
use Rattle.sqlite_trees.specs.declared.store.Shape.TheVariants as shape
use Rattle.sqlite_trees.specs.Tree.{Trees}
use Rattle.sqlite_trees.specs.View.{IsShaped}
use Rattle.sqlite_value.specs.Order.{Row}
use Rattle.page_files.specs.declared.files.PageFile.{PageFile}
use Rattle.page_files.specs.Held.{Writes}
use Rattle.page_places.specs.TableChanges.{SparesBut}
use Rattle.page_places.specs.Fills.{Fills}
use Rattle.page_places.specs.Failures.{FailsToStore}
use Rattle.plain_tables.specs.declared.errors.StoreError.{StoreError}
use Rattle.page_places.specs.declared.places.Place.{Place}
use Rattle.line_fills.specs.Causes.{CanBeFilledIn}
use Rattle.line_fills.specs.Rows.{rows_behind}
use Rattle.page_places.specs.Changes.{AtTable}
use Rattle.page_places.specs.Places.{indexes_of}

-- the trees of a table and of its indexes
abbrev pub trees_over : Schema → Table → List ℕ
trees_over schema table = table.tree ∷ map (λ (i : Index). i.tree) (indexes_of schema table)

-- the index has an entry for each new row beside its own, and no two of these have one key
abbrev pub IsIndexFilled : Trees → Trees → List Row → Index → Type 0
IsIndexFilled now next news i = Fills i.columns (length i.columns) news (now i.tree) (next i.tree)

-- the table has rows of these columns behind its own, numbered from the next rowid on, and its indexes have their entries
pub record IsTableFilled (schema : Schema) (now next : Trees) (table : Table) (columns : List Row) : Type 0 where
  pub behind : next table.tree ≡ now table.tree ++ rows_behind (now table.tree) columns
  pub shaped : IsShaped shape.Table (next table.tree)
  pub spared : SparesBut (trees_over schema table) now next
  pub filled : AllByRecursion (IsIndexFilled now next (rows_behind (now table.tree) columns)) (indexes_of schema table)

module _ {D : Type 0} {g : Ghosts D} where
  -- the transaction shows trees in which these rows are filled in
  pub record HasFilled (schema : Schema) (wanted : List Wanted) (roots : List ℕ) (was now : Trees) (table : Table) (columns : List Row) (it : PageFile D g)
      : Type 0 where
    pub next : Trees
    pub writes : Writes wanted roots was next it
    pub filled : IsTableFilled schema now next table columns

  -- within a transaction, rows of these columns are put into the table at this place, or there is a cause
  abbrev pub FillsTable : PageFile D g → PageFile D g → Place → List Row → {A : Type 0} → Result A StoreError → Type 0
  FillsTable old new place columns result =
      AtTable old new place (λ schema wanted roots was now table. MatchResult result (λ _. HasFilled schema wanted roots was now table columns new)
      (FailsToStore old new (CanBeFilledIn columns (now table.tree) (indexes_of schema table))))
