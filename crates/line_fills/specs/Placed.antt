-- Rows placed in a table, and their entries in its indexes.
use Rattle.std.specs.Prelude.{◌≡◌, ◌≢◌, ℕ, List, ◌++◌, length, map, Result, MatchResult}
use Rattle.std.specs.List.{AllByRecursion}
use Rattle.sqlite_disk.specs.declared.Disk.{Ghosts}
use Rattle.sqlite_schema.specs.declared.schema.Index.{Index}
use Rattle.sqlite_sql.specs.Catalog.{IsIndexOf}
use Rattle.sqlite_store.specs.declared.catalog.Wanted.{Wanted}
use Rattle.sqlite_store.specs.Catalog.{reals_at}
use Rattle.sqlite_trees.specs.declared.store.Shape.{Shape}
use Rattle.sqlite_trees.specs.declared.store.Shape.TheVariants as shape
use Rattle.sqlite_trees.specs.Tree.{Trees, IsAscending, insert_entry, with_tree}
use Rattle.sqlite_trees.specs.View.{IsShaped}
use Rattle.sqlite_value.specs.Keys.{plain}
use Rattle.sqlite_value.specs.Order.{Row}
use Rattle.page_files.specs.Places.{Place, place_all}
use Rattle.page_files.specs.declared.files.PageFile.{PageFile}
use Rattle.page_files.specs.Files.{IsFaithful}
use Rattle.page_files.specs.Held.{Writes}
use Rattle.page_files.specs.Writes.{AtTree}
use Rattle.page_places.specs.TableChanges.{SparesBut}
use Rattle.page_places.specs.Keys.{HeadsDiffer}
use Rattle.page_places.specs.declared.places.IndexPlace.{IndexPlace}
use Rattle.page_places.specs.Places.{AreIndexPlaces}
use Rattle.page_places.specs.Failures.{FailsToStore}
use Rattle.plain_tables.specs.declared.errors.StoreError.{StoreError}
use Rattle.line_fills.specs.Causes.{CanEnter}
use Rattle.line_fills.specs.Filled.{IsIndexFilled}

-- the entries of new rows in an index of these columns, no two of which have one key
pub record AreEntriesOf (columns : List ℕ) (news entries : List Row) : Type 0 where
  pub are_of : IsIndexOf columns news entries
  pub differ : HeadsDiffer (length columns) entries

-- no two indexes share a tree, each has an entry for each of the old rows, and the new rows stand behind these
pub record CanBeFilled (now : Trees) (indexes : List Index) (olds news : List Row) : Type 0 where
  pub apart : IsAscending (λ (i j : Index). i.tree ≢ j.tree) indexes
  pub shaped : IsShaped shape.Table (olds ++ news)
  pub indexed : AllByRecursion (λ (i : Index). IsIndexOf i.columns olds (now i.tree)) indexes

module _ {D : Type 0} {g : Ghosts D} where
  -- the transaction shows trees in which each of the indexes has the entries of new rows, and nothing else has changed
  pub record HasEntries (wanted : List Wanted) (roots : List ℕ) (was now : Trees) (indexes : List Index) (news : List Row) (it : PageFile D g) : Type 0 where
    pub next : Trees
    pub writes : Writes wanted roots was next it
    pub spared : SparesBut (map (λ (i : Index). i.tree) indexes) now next
    pub filled : AllByRecursion (IsIndexFilled now next news) indexes

  module _ (old new : PageFile D g) where
    -- within a transaction, rows are placed one after another in the tree of this shape under this root, which has no REAL column;
    -- or there is a cause, where this may be missing
    abbrev pub PlacesAll : Shape → ℕ → Place → List Row → Type 0 → {A : Type 0} → Result A StoreError → Type 0
    PlacesAll shape root place news CanBePlaced result =
        AtTree old new shape root (λ wanted roots was now t. reals_at wanted t ≡ 0
        → MatchResult result (λ _. Writes wanted roots was (with_tree now t (place_all place news (now t))) new) (FailsToStore old new CanBePlaced))

    -- the same of the entries of new rows in the index at this place
    abbrev pub FillsIndex : IndexPlace → List Row → {A : Type 0} → Result A StoreError → Type 0
    FillsIndex place news result =
        AtTree old new (shape.Index plain) place.root (λ wanted roots was now t. reals_at wanted t ≡ 0
        → MatchResult result (λ _. (entries : List Row) × AreEntriesOf place.columns.now news entries
        × Writes wanted roots was (with_tree now t (place_all (insert_entry plain) entries (now t))) new)
        (FailsToStore old new (CanEnter place.columns.now news)))

    -- the same in each of the indexes at these places
    abbrev pub FillsIndexes : List IndexPlace → List Row → {A : Type 0} → Result A StoreError → Type 0
    FillsIndexes places news result =
        IsFaithful new → (wanted : List Wanted) (roots : List ℕ) (was now : Trees) (indexes : List Index) (olds : List Row)
        → Writes wanted roots was now old → AreIndexPlaces wanted roots places indexes → CanBeFilled now indexes olds news
        → MatchResult result (λ _. HasEntries wanted roots was now indexes news new)
        (FailsToStore old new (AllByRecursion (λ (i : Index). CanEnter i.columns news) indexes))
