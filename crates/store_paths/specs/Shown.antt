-- What the files of a store show as they are opened.
use Rattle.std.specs.Prelude.{◌≡◌, IsTrue}
use Rattle.sqlite.specs.Files.{HoldsDatabase}
use Rattle.sqlite_disk.specs.declared.Disk.{Ghosts}
use Rattle.sqlite_disk.specs.declared.Files.{Files}
use Rattle.sqlite_wal.specs.Files.{seen_image}
use Rattle.sqlite_wal.specs.Reads.{AreClean}
use Rattle.sqlite_trees.specs.Tree.{Trees}
use Rattle.sqlite_wal.specs.Recovery.{Image}
use Rattle.plain_tables.specs.Tables.{Tables}
use Rattle.run_stores.specs.Order.{AreInOrder}
use Rattle.prof_store.specs.Tables.{Holds}

-- an image of files is a database whose tables hold these rows
abbrev pub HoldsRows : Image → Tables → Type 0
HoldsRows image t = (db : Trees) × HoldsDatabase image db × Holds t db

-- those of runs in the order of the runs, as the pages are read
abbrev pub HoldsInOrder : Image → Tables → Type 0
HoldsInOrder image t = HoldsRows image t × AreInOrder t

-- files can be used, and show this, where no wrong answer was taken as true
pub record ShowImage {D : Type 0} (g : Ghosts D) (image : Image) (files : Files D) : Type 0 where
  pub log : IsTrue (g.is_usable files.log)
  pub db : IsTrue (g.is_usable files.db)
  pub shows : AreClean g files.log files.db → seen_image g files.log files.db ≡ image
