-- The rows of one table change, its indexes with them, and nothing else.
use Rattle.std.specs.Prelude.{◌≡◌, ◌∷◌, ℕ, ℤ, List, Result, MatchResult, ⊤}
use Rattle.std.specs.declared.cmp.Ordering.TheVariants.{Less}
use Rattle.std.specs.List.{AllByRecursion}
use Rattle.sqlite_disk.specs.declared.Disk.{Ghosts}
use Rattle.sqlite_rules.specs.Lists.{Has}
use Rattle.sqlite_schema.specs.declared.schema.Index.{Index}
use Rattle.sqlite_schema.specs.declared.schema.Schema.{Schema}
use Rattle.sqlite_schema.specs.declared.schema.Table.{Table}
use Rattle.sqlite_sql.specs.Catalog.{entry_of, IsIndexOf}
use Rattle.sqlite_store.specs.declared.catalog.Wanted.{Wanted}
use Rattle.sqlite_trees.specs.declared.store.Shape.TheVariants as shape
use Rattle.sqlite_trees.specs.Tree.{Trees, rowid}
use Rattle.sqlite_trees.specs.View.{IsShaped, IsStorable}
use Rattle.sqlite_value.specs.declared.value.Value.{Value}
use Rattle.sqlite_value.specs.declared.value.Value.TheVariants.{Int}
use Rattle.sqlite_value.specs.Order.{Row, column, value_cmp}
use Rattle.page_files.specs.declared.files.PageFile.{PageFile}
use Rattle.page_files.specs.Files.{IsFaithful}
use Rattle.page_files.specs.Held.{Writes}
use Rattle.page_places.specs.TableChanges.{OnlyChanges}
use Rattle.page_places.specs.declared.errors.RowError.{RowError}
use Rattle.page_places.specs.declared.places.Place.{Place}
use Rattle.page_places.specs.Causes.{FailsToChange}
use Rattle.page_places.specs.Places.{indexes_of, IsPlaceOf}

-- each index of the schema has an entry for each row of its table
abbrev pub AreIndexed : Schema → Trees → Type 0
AreIndexed schema now = AllByRecursion (λ (i : Index). IsIndexOf i.columns (now i.table) (now i.tree)) schema.indexes

-- the row and its entries can be written as records
abbrev pub AreStorable : Row → List Index → Type 0
AreStorable row indexes = AllByRecursion (λ (i : Index). IsStorable 0 (entry_of i.columns row)) indexes

-- nothing more is wanted
abbrev pub Anything : List Row → List Index → Type 0
Anything rows indexes = ⊤

-- the row with this rowid has the values of these columns in each column of an index
abbrev pub KeepsEntries : ℤ → Row → List Row → List Index → Type 0
KeepsEntries id columns rows indexes =
    (old : Row) × Has rows (Int id ∷ old)
    × AllByRecursion (λ (i : Index). AllByRecursion (λ at. column (Int id ∷ columns) at ≡ column (Int id ∷ old) at) i.columns) indexes

-- each row has a rowid below this one
abbrev pub AreBelow : Value → List Row → Type 0
AreBelow id rows = AllByRecursion (λ r. value_cmp (rowid r) id ≡ Less) rows

module _ {D : Type 0} {g : Ghosts D} where
  -- within a transaction that shows these trees, the table stands at this place, and each index is that of its table
  pub record Shows (place : Place) (schema : Schema) (wanted : List Wanted) (roots : List ℕ) (was now : Trees) (table : Table)
      (it : PageFile D g) : Type 0 where
    pub writes : Writes wanted roots was now it
    pub placed : IsPlaceOf place wanted roots schema table
    pub indexed : AreIndexed schema now

  -- the transaction shows other trees, in which the table has these rows; nothing else but its indexes has changed
  pub record HasRows (schema : Schema) (wanted : List Wanted) (roots : List ℕ) (was now : Trees) (table : Table) (rows : List Row)
      (it : PageFile D g) : Type 0 where
    pub next : Trees
    pub writes : Writes wanted roots was next it
    pub only : OnlyChanges schema now next table
    pub rows_are : next table.tree ≡ rows
    pub shaped : IsShaped shape.Table rows

  module _ (old new : PageFile D g) where
    -- within a transaction, of a table at this place: what the fact says of it and of the trees
    abbrev pub AtTable : Place → (Schema → List Wanted → List ℕ → Trees → Trees → Table → Type 0) → Type 0
    AtTable place Fact =
        IsFaithful new → (schema : Schema) (wanted : List Wanted) (roots : List ℕ) (was now : Trees) (table : Table)
        → Shows place schema wanted roots was now table old → Fact schema wanted roots was now table

    -- the same of its rows alone
    abbrev pub AtRows : Place → (List Row → Type 0) → Type 0
    AtRows place Fact = AtTable place (λ schema wanted roots was now table. Fact (now table.tree))

    -- its rows are edited, or there is a cause
    abbrev pub EditsOrFails : {A : Type 0} → (List Row → List Row) → (List Row → List Index → Type 0) → Result A RowError
        → Schema → List Wanted → List ℕ → Trees → Trees → Table → Type 0
    EditsOrFails edit CanStore result schema wanted roots was now table =
        MatchResult result (λ _. HasRows schema wanted roots was now table (edit (now table.tree)) new)
        (FailsToChange old new (CanStore (now table.tree) (indexes_of schema table)))

    -- the rows of the table at this place, where they are such as it needs, are edited
    abbrev pub EditsRows : {A : Type 0} → Place → (List Row → List Index → Type 0) → (List Row → List Row)
        → (List Row → List Index → Type 0) → Result A RowError → Type 0
    EditsRows place Needs edit CanStore result =
        AtTable place (λ schema wanted roots was now table.
        Needs (now table.tree) (indexes_of schema table) → EditsOrFails edit CanStore result schema wanted roots was now table)
