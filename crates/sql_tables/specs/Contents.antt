-- What tables hold, as lists of rows: for every schema.
use Rattle.std.specs.Prelude.{◌≡◌, ℕ, zero, suc, Bool, true, not, ◌&&◌, ◌==◌, if◌then◌else◌, List, [], ◌∷◌, map, drop, is_some, slice_index_or, ⊤}
use Rattle.std.specs.List.{list_all}
use Rattle.sqlite_value.specs.Order.{Row}
use Rattle.sqlite_trees.specs.Tree.{Trees}
use Rattle.sqlite_trees.specs.View.{IsShaped}
use Rattle.sqlite_trees.specs.declared.store.Shape.TheVariants as shape
use Rattle.sqlite_catalog.specs.Listing.{IsSound}
use Rattle.sqlite_schema.specs.declared.schema.Table.{Table}
use Rattle.sqlite_schema.specs.declared.schema.Schema.{Schema}

-- the rows as they count: behind the number that is their key, or without the rowids that nobody reads
abbrev pub rows_that_count : Table → List Row → List Row
rows_that_count table rows = if is_some table.key then rows else map (drop 1) rows

-- a table's tree has these rows, in order
pub record IsContent (table : Table) (content : List Row) (rows : List Row) : Type 0 where
  pub numbered : IsShaped shape.Table rows
  pub rows_are : rows_that_count table rows ≡ content

-- contents without the one at a place
abbrev pub without_content : ℕ → List (List Row) → List (List Row)
without_content at [] = []
without_content zero (content ∷ contents) = contents
without_content (suc at) (content ∷ contents) = content ∷ without_content at contents

-- each table has its content
abbrev pub AllContents : List Table → List (List Row) → Trees → Type 0
AllContents [] [] db = ⊤
AllContents [] (content ∷ contents) db = ⊥
AllContents (table ∷ tables) [] db = ⊥
AllContents (table ∷ tables) (content ∷ contents) db = IsContent table content (db table.tree) × AllContents tables contents db

-- the trees list the schema and obey it, and its tables, in order, have these contents
pub record Contain (schema : Schema) (contents : List (List Row)) (db : Trees) : Type 0 where
  pub sound : IsSound schema db
  pub contents_are : AllContents schema.tables contents db

-- the content of the table at a place
abbrev pub content_at : ℕ → List (List Row) → List Row
content_at at contents = slice_index_or contents at []

-- contents, of which the one at a place is another
abbrev pub with_content : ℕ → List Row → List (List Row) → List (List Row)
with_content at new [] = []
with_content zero new (content ∷ contents) = new ∷ contents
with_content (suc at) new (content ∷ contents) = content ∷ with_content at new contents

-- no other table than the one at a place has this tree
abbrev pub stands_alone : ℕ → ℕ → List Table → Bool
stands_alone tree at [] = true
stands_alone tree zero (table ∷ tables) = list_all (λ (t : Table). not (t.tree == tree)) tables
stands_alone tree (suc at) (table ∷ tables) = not (table.tree == tree) && stands_alone tree at tables

-- no table has a row
abbrev pub no_rows : List Table → List (List Row)
no_rows tables = map (λ _. []) tables
