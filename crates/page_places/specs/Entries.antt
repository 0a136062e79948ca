-- The entries of one row in the indexes of its table.
use Rattle.std.specs.Prelude.{List, fold, Result, MatchResult, ℕ}
use Rattle.sqlite_disk.specs.declared.Disk.{Ghosts}
use Rattle.sqlite_schema.specs.declared.schema.Index.{Index}
use Rattle.sqlite_sql.specs.Catalog.{entry_of}
use Rattle.sqlite_store.specs.declared.catalog.Wanted.{Wanted}
use Rattle.sqlite_trees.specs.Tree.{Trees, with_tree}
use Rattle.sqlite_value.specs.declared.keys.Order.{Order}
use Rattle.sqlite_value.specs.Keys.{plain}
use Rattle.sqlite_value.specs.Order.{Row}
use Rattle.page_files.specs.declared.files.PageFile.{PageFile}
use Rattle.page_files.specs.Files.{IsFaithful}
use Rattle.page_files.specs.Held.{Writes}
use Rattle.page_places.specs.declared.errors.RowError.{RowError}
use Rattle.page_places.specs.declared.places.IndexPlace.{IndexPlace}
use Rattle.page_places.specs.Causes.{FailsToChange}
use Rattle.page_places.specs.Places.{AreIndexPlaces}

-- `insert_entry` or `remove_entry`
abbrev pub EntryEdit : Type 0
EntryEdit = Order → Row → List Row → List Row

-- the trees once the row's entry is edited in an index
abbrev pub with_entry : EntryEdit → Row → Trees → Index → Trees
with_entry edit row trees index = with_tree trees index.tree (edit plain (entry_of index.columns row) (trees index.tree))

-- the same in each of some indexes
abbrev pub with_entries : EntryEdit → Row → Trees → List Index → Trees
with_entries edit row = fold (with_entry edit row)

module _ {D : Type 0} {g : Ghosts D} (old new : PageFile D g) where
  -- within a transaction, the row's entries are edited in the indexes of these places
  abbrev pub EditsEntries : {A : Type 0} → List IndexPlace → EntryEdit → Row → (List Index → Type 0) → Result A RowError → Type 0
  EditsEntries places edit row AreStorable result =
      IsFaithful new → (wanted : List Wanted) (roots : List ℕ) (was now : Trees) (indexes : List Index)
      → Writes wanted roots was now old → AreIndexPlaces wanted roots places indexes
      → MatchResult result (λ _. Writes wanted roots was (with_entries edit row now indexes) new) (FailsToChange old new (AreStorable indexes))
