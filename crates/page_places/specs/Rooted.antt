-- The tables of a store with their indexes, at their roots.
use Rattle.std.specs.Prelude.{◌≡◌, ℕ, List, [], ◌∷◌, slice_index, take, ⊤}
use Rattle.sqlite_schema.specs.declared.schema.Index.{Index}
use Rattle.sqlite_schema.specs.declared.schema.Table.{Table}
use Rattle.prof_store.specs.Schema.{schema_two}
use Rattle.page_places.specs.declared.places.IndexPlace.{IndexPlace}
use Rattle.page_places.specs.declared.places.Place.{Place}
use Rattle.page_places.specs.declared.places.StoreTable.{StoreTable}
use Rattle.page_places.specs.Places.{indexes_of}

-- an index at its root, among those of all trees
pub record IsKey (known : List ℕ) (place : IndexPlace) (index : Index) : Type 0 where
  pub root : place.root ≡ slice_index known index.tree
  pub columns : place.columns.now ≡ index.columns

-- a place for each of these indexes, in their order
abbrev pub AreKeys : List ℕ → List IndexPlace → List Index → Type 0
AreKeys known [] [] = ⊤
AreKeys known [] (index ∷ indexes) = ⊥
AreKeys known (place ∷ places) [] = ⊥
AreKeys known (place ∷ places) (index ∷ indexes) = IsKey known place index × AreKeys known places indexes

-- a table of a store at its root, and its indexes at theirs
pub record IsRooted (known : List ℕ) (table : Table) (place : Place) : Type 0 where
  pub root : place.root ≡ slice_index known table.tree
  pub keys : AreKeys known place.indexes.now (indexes_of schema_two table)

-- the same of one that is held
pub record IsHeldAt (known : List ℕ) (table : Table) (held : StoreTable) : Type 0 where
  pub root : held.root ≡ slice_index known table.tree
  pub keys : AreKeys known (take held.count held.indexes) (indexes_of schema_two table)
