-- The trees of a database that an opened file shows.
use Rattle.std.specs.Prelude.{◌≡◌, ℕ, List, None}
use Rattle.sqlite_disk.specs.declared.Disk.{Ghosts}
use Rattle.sqlite_store.specs.declared.catalog.Wanted.{Wanted}
use Rattle.sqlite_store.specs.Db.{roots_of, trees_in, IsDb}
use Rattle.sqlite_store.specs.Listing.{all_trees}
use Rattle.sqlite_trees.specs.Objects.{with_version}
use Rattle.sqlite_trees.specs.Tree.{Trees}
use Rattle.sqlite_value.specs.declared.keys.Order.{Order}
use Rattle.page_rows.specs.Tables.{IsIndexRooted, IsRooted}
use Rattle.page_files.specs.declared.files.PageFile.{PageFile}
use Rattle.page_files.specs.Files.{page_size, pages_of}

module _ {D : Type 0} {g : Ghosts D} where
  -- the pages are a database of this schema
  pub record ShowsDb (wanted : List Wanted) (it : PageFile D g) : Type 0 where
    pub is_db : IsDb (page_size it) wanted (pages_of it)
    pub no_zero : pages_of it 0 ≡ None

  -- which has these trees
  abbrev pub trees_of : List Wanted → PageFile D g → Trees
  trees_of wanted it = trees_in (page_size it) wanted (pages_of it)

  -- they are a database of this schema that reads as these trees, under these roots, be they committed or not
  pub record StandsIn (wanted : List Wanted) (known : List ℕ) (db : Trees) (it : PageFile D g) : Type 0 where
    pub is_db : IsDb (page_size it) wanted (pages_of it)
    pub known_are : known ≡ roots_of (page_size it) wanted (pages_of it)
    pub version : ℕ
    pub reads : db ≡ with_version (all_trees (page_size it) wanted (pages_of it)) version

  -- in it tree t is a table under this root, with no REAL column
  pub record ShowsTable (wanted : List Wanted) (t root : ℕ) (it : PageFile D g) : Type 0 where
    pub is_db : IsDb (page_size it) wanted (pages_of it)
    pub rooted : IsRooted (page_size it) wanted (pages_of it) t root

  -- in it tree t is an index of this order under this root, with no REAL column
  pub record ShowsIndex (wanted : List Wanted) (t : ℕ) (order : Order) (root : ℕ) (it : PageFile D g) : Type 0 where
    pub is_db : IsDb (page_size it) wanted (pages_of it)
    pub rooted : IsIndexRooted (page_size it) wanted (pages_of it) t order root
