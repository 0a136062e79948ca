-- Where a table of a database and its indexes stand.
use Rattle.std.specs.Prelude.{◌≡◌, ◌==◌, ◌&&◌, ◌++◌, ℕ, Bool, true, not, List, [], ◌∷◌, map, filter, ⊤}
use Rattle.std.specs.List.{list_all, list_any}
use Rattle.sqlite_rules.specs.Lists.{Has}
use Rattle.sqlite_schema.specs.declared.schema.Index.{Index}
use Rattle.sqlite_schema.specs.declared.schema.Schema.{Schema}
use Rattle.sqlite_schema.specs.declared.schema.Table.{Table}
use Rattle.sqlite_store.specs.declared.catalog.Wanted.{Wanted}
use Rattle.sqlite_store.specs.Catalog.{reals_at}
use Rattle.sqlite_trees.specs.declared.store.Shape.TheVariants as shape
use Rattle.sqlite_value.specs.Keys.{plain}
use Rattle.page_files.specs.Writes.{IsTreeAt}
use Rattle.page_places.specs.declared.places.IndexPlace.{IndexPlace}
use Rattle.page_places.specs.declared.places.Place.{Place}

-- the numbers differ from one another
abbrev pub all_apart : List ℕ → Bool
all_apart [] = true
all_apart (n ∷ ns) = not (list_any (λ m. m == n) ns) && all_apart ns

-- no two tables or indexes share a tree, and each index is of one of the tables
pub record IsSpaced (schema : Schema) : Type 0 where
  pub apart : all_apart (map (λ (t : Table). t.tree) schema.tables ++ map (λ (i : Index). i.tree) schema.indexes) ≡ true
  pub of_tables : list_all (λ (i : Index). list_any (λ (t : Table). t.tree == i.table) schema.tables) schema.indexes ≡ true

-- the indexes over a table
abbrev pub indexes_of : Schema → Table → List Index
indexes_of schema table = filter (λ (i : Index). i.table == table.tree) schema.indexes

-- the tree of an index stands under this root, in the plain order of these columns, none of which is REAL
pub record IsIndexPlace (wanted : List Wanted) (roots : List ℕ) (place : IndexPlace) (index : Index) : Type 0 where
  pub at : IsTreeAt wanted roots index.tree (shape.Index plain) place.root
  pub no_reals : reals_at wanted index.tree ≡ 0
  pub columns : place.columns.now ≡ index.columns

-- a place for each of the indexes, in their order
abbrev pub AreIndexPlaces : List Wanted → List ℕ → List IndexPlace → List Index → Type 0
AreIndexPlaces wanted roots [] [] = ⊤
AreIndexPlaces wanted roots [] (index ∷ indexes) = ⊥
AreIndexPlaces wanted roots (place ∷ places) [] = ⊥
AreIndexPlaces wanted roots (place ∷ places) (index ∷ indexes) = IsIndexPlace wanted roots place index × AreIndexPlaces wanted roots places indexes

-- a table of the schema, with no REAL column, and its indexes
pub record IsPlaceOf (place : Place) (wanted : List Wanted) (roots : List ℕ) (schema : Schema) (table : Table) : Type 0 where
  pub at : IsTreeAt wanted roots table.tree shape.Table place.root
  pub no_reals : reals_at wanted table.tree ≡ 0
  pub indexes : AreIndexPlaces wanted roots place.indexes.now (indexes_of schema table)
  pub listed : Has schema.tables table
  pub spaced : IsSpaced schema
