-- What rows of tables of schema 2 say, whoever wrote them, read as lines.
use Rattle.std.specs.Prelude.{◌≡◌, ◌≤◌, ◌^◌, ℕ, suc, pos, negsuc, List, [], ◌∷◌, map, ⊤}
use Rattle.std.specs.List.{AllByRecursion}
use Rattle.sqlite_value.specs.declared.value.Value.{Value}
use Rattle.sqlite_value.specs.declared.value.Value.TheVariants.{Null, Int, Real, Text, Blob}
use Rattle.sqlite_value.specs.Order.{Row, column}
use Rattle.sqlite_trees.specs.Tree.{Trees}
use Rattle.sqlite_trees.specs.View.{IsShaped}
use Rattle.sqlite_trees.specs.declared.store.Shape.TheVariants as shape
use Rattle.sqlite_catalog.specs.Listing.{IsSound}
use Rattle.sqlite_schema.specs.declared.schema.Column.{Column}
use Rattle.sqlite_schema.specs.declared.schema.Table.{Table}
use Rattle.sql_tables.specs.Contents.{rows_that_count}
use Rattle.prof_store.specs.Schema.{schema_two}
use Rattle.plain_tables.specs.Tables.{Tables}
use Rattle.prof_store.specs.Tables.{contents_of, number}

-- a negative number, which stands in no line, is read as another number
abbrev pub as_read : (ℕ → ℕ) → Value → Value
as_read far Null = Null
as_read far (Int (pos n)) = number n
as_read far (Int (negsuc n)) = number (far n)
as_read far (Real x) = Real x
as_read far (Text t) = Text t
as_read far (Blob b) = Blob b

-- the places of columns, counted up
abbrev pub places_from : ℕ → List Column → List ℕ
places_from at [] = []
places_from at (c ∷ cs) = at ∷ places_from (suc at) cs

-- a row of a table, so read: its rowid, and a value in each column
abbrev pub row_read : (ℕ → ℕ) → Table → Row → Row
row_read far table r = map (λ at. as_read far (column r at)) (0 ∷ places_from 1 table.columns)

-- a row with a key is so read as these columns, and one behind a rowid
abbrev pub Says : {X : Type 0} → (ℕ → ℕ) → Table → (X → Row) → Row → X → Type 0
Says far table columns r x = row_read far table r ≡ columns x

abbrev pub SaysBehind : {X : Type 0} → (ℕ → ℕ) → Table → (X → Row) → Row → X → Type 0
SaysBehind far table columns r x = (id : Value) × (row_read far table r ≡ id ∷ columns x)

-- the rows of a table, so read, are these
pub record IsReadAs (far : ℕ → ℕ) (table : Table) (content : List Row) (rows : List Row) : Type 0 where
  pub numbered : IsShaped shape.Table rows
  pub rows_are : rows_that_count table (map (row_read far table) rows) ≡ content

abbrev pub AreReadAs : (ℕ → ℕ) → List Table → List (List Row) → Trees → Type 0
AreReadAs far [] [] db = ⊤
AreReadAs far [] (content ∷ contents) db = ⊥
AreReadAs far (table ∷ tables) [] db = ⊥
AreReadAs far (table ∷ tables) (content ∷ contents) db = IsReadAs far table content (db table.tree) × AreReadAs far tables contents db

-- the rowids of each table rise, as they do in a store
abbrev pub AreShaped : Trees → Type 0
AreShaped db = AllByRecursion (λ (table : Table). IsShaped shape.Table (db table.tree)) schema_two.tables

-- the one row of meta says schema 2
pub record HasMeta (db : Trees) : Type 0 where
  pub row : Row
  pub only : db 0 ≡ row ∷ []
  pub id : column row 0 ≡ number 1
  pub schema : column row 2 ≡ number 2

-- the tables are sound, and their rows are read as these lines, where each negative number is read as one that no command has
pub record IsSaidBy (t : Tables) (db : Trees) : Type 0 where
  pub sound : IsSound schema_two db
  pub far : ℕ → ℕ
  pub is_far : (n : ℕ) → 2 ^ 64 ≤ far n
  pub contents_are : AreReadAs far schema_two.tables (contents_of t) db

-- the same, which proofs that only pass it on do not look into
unfoldable pub RowsSay : Tables → Trees → Type 0
RowsSay t db = IsSaidBy t db
