-- The rows that an opened file shows.
use Rattle.std.specs.Prelude.{◌≡◌, ℕ, List}
use Rattle.sqlite_disk.specs.declared.Disk.{Ghosts}
use Rattle.sqlite_store.specs.declared.catalog.Wanted.{Wanted}
use Rattle.sqlite_value.specs.Order.{Row}
use Rattle.page_files.specs.declared.files.PageFile.{PageFile}
use Rattle.page_files.specs.Trees.{ShowsTable, trees_of}

module _ {D : Type 0} {g : Ghosts D} where
  -- it is a database, in which the table under this root has these rows
  pub record ShowsRows (file : PageFile D g) (root : ℕ) (rows : List Row) : Type 0 where
    pub wanted : List Wanted
    pub t : ℕ
    pub shows : ShowsTable wanted t root file
    pub rows_are : trees_of wanted file t ≡ rows
