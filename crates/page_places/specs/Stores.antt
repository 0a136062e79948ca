-- The names that the pages of a file hold.
use Rattle.std.specs.Prelude.{ℕ, List}
use Rattle.sqlite_catalog.specs.Listing.{IsSound}
use Rattle.sqlite_disk.specs.declared.Disk.{Ghosts}
use Rattle.sqlite_store.specs.declared.catalog.Wanted.{Wanted}
use Rattle.sqlite_trees.specs.Tree.{Trees}
use Rattle.page_files.specs.declared.files.PageFile.{PageFile}
use Rattle.page_files.specs.Trees.{StandsIn}
use Rattle.plain_tables.specs.Tables.{Tables}
use Rattle.prof_store.specs.Schema.{schema_two, name_at}
use Rattle.prof_store.specs.Names.{SayNames}

-- a sound database of our tables, whatever stands in the others: whoever wrote its rows of names, they say these
pub record HoldsNames (t : Tables) (db : Trees) : Type 0 where
  pub sound : IsSound schema_two db
  pub names_are : SayNames (db name_at.tree) t.names

module _ {D : Type 0} {g : Ghosts D} where
  -- the pages, committed or not, are a store with these names, and its trees stand under these roots
  pub record ShowsNames (t : Tables) (known : List ℕ) (file : PageFile D g) : Type 0 where
    pub wanted : List Wanted
    pub db : Trees
    pub stands : StandsIn wanted known db file
    pub holds : HoldsNames t db
