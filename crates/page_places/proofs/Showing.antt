-- A table of a store at its root is where rows are written, within a transaction over the store.
use Rattle.std.proofs.Common.{◌≡◌, ◌==◌, ℕ, List, [], ◌∷◌, slice_get, Some, refl, sym, ap, ◌∙◌}
use Rattle.std.specs.List.{AllByRecursion}
use Rattle.sqlite_disk.specs.declared.Disk.{Ghosts}
use Rattle.sqlite_rules.proofs.ListLemmas.{has_got}
use Rattle.sqlite_schema.specs.declared.schema.Index.{Index}
use Rattle.sqlite_schema.specs.declared.schema.Table.{Table}
use Rattle.sqlite_store.specs.declared.catalog.Wanted.{Wanted}
use Rattle.sqlite_trees.specs.Tree.{Trees}
use Rattle.sqlite_trees.specs.declared.store.Shape.TheVariants as shape
use Rattle.sqlite_trees.proofs.ListLemmas.{all-filter}
use Rattle.sqlite_value.specs.Keys.{plain}
use Rattle.page_files.specs.declared.files.PageFile.{PageFile}
use Rattle.page_files.specs.Held.{Writes}
use Rattle.page_files.proofs.Standing.{catalog_shown, stands_writing}
use Rattle.plain_tables.specs.Tables.{Tables}
use Rattle.prof_store.specs.Schema.{schema_two}
use Rattle.prof_store.specs.Tables.{Holds}
use Rattle.page_places.specs.declared.places.IndexPlace.{IndexPlace}
use Rattle.page_places.specs.declared.places.Place.{Place}
use Rattle.page_places.specs.Changes.{Shows}
use Rattle.page_places.specs.Places.{AreIndexPlaces, IsIndexPlace, indexes_of}
use Rattle.page_places.specs.Rooted.{AreKeys, IsKey, IsRooted}
use Rattle.page_places.proofs.Placing.{index_placed_at, placed_at}

-- an index of the schema, in the plain order
abbrev IsOurs : Index → Type 0
IsOurs index = (under : ℕ) × (slice_get schema_two.indexes under ≡ Some index) × (index.order ≡ plain)

all_ours : AllByRecursion IsOurs schema_two.indexes
all_ours = ((0, refl, refl), ((1, refl, refl), ((2, refl, refl), ((3, refl, refl), ((4, refl, refl), ((5, refl, refl), ((6, refl, refl), ((7, refl, refl), ((8, refl, refl), ((9, refl, refl), ((10, refl, refl), ((11, refl, refl), tt))))))))))))

module _ {D : Type 0} {g : Ghosts D} (file : PageFile D g) {wanted : List Wanted} {known : List ℕ} {was now : Trees} {t : Tables} (writes : Writes wanted known was now file) (holds : Holds t now) where
  index_at : (index : Index) → IsOurs index → (place : IndexPlace) → IsKey known place index → IsIndexPlace wanted known place index
  index_at index ours place key =
      let placed = index_placed_at wanted now (catalog_shown file (stands_writing file writes)) holds.contain.sound ours.0 index ours.1 in
      record {
        at = record { low = placed.low; shape_is = placed.named.shape ∙ ap (λ o. shape.Index o) ours.2; root_is = sym key.root };
        no_reals = placed.plain;
        columns = key.columns;
      }

  indexes_at : (places : List IndexPlace) (indexes : List Index) → AllByRecursion IsOurs indexes → AreKeys known places indexes → AreIndexPlaces wanted known places indexes
  indexes_at [] [] ours keys = tt
  indexes_at [] (index ∷ indexes) ours keys = absurd keys
  indexes_at (place ∷ places) [] ours keys = absurd keys
  indexes_at (place ∷ places) (index ∷ indexes) ours keys = (index_at index ours.0 place keys.0, indexes_at places indexes ours.1 keys.1)

  pub table_at : (at : ℕ) (table : Table) → slice_get schema_two.tables at ≡ Some table → (place : Place) → IsRooted known table place → Shows place schema_two wanted known was now table file
  table_at at table there place rooted =
      let placed = placed_at wanted now (catalog_shown file (stands_writing file writes)) holds.contain.sound at table there in
      record {
        writes = writes;
        placed = record {
          at = record { low = placed.low; shape_is = placed.named.shape; root_is = sym rooted.root };
          no_reals = placed.plain;
          indexes = indexes_at place.indexes.now (indexes_of schema_two table) (all-filter IsOurs (λ (index : Index). index.table == table.tree) schema_two.indexes all_ours) rooted.keys;
          listed = has_got schema_two.tables at table there;
          spaced = record { apart = refl; of_tables = refl };
        };
        indexed = holds.contain.sound.obeys.indexed;
      }
