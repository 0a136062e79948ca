-- Files of a host, as they are opened.
use Rattle.sqlite_disk.specs.declared.Disk.{Ghosts}
use Rattle.sqlite_disk.specs.declared.Files.{Files}
use Rattle.sqlite_disk.specs.declared.start.Start as start
use Rattle.store_paths.specs.Untouched.{IsUntouched}

-- both are as they were found
pub record AreUntouched {D S : Type 0} (g : Ghosts D) (first : start.Ghosts S) (files : Files D) : Type 0 where
  pub log : IsUntouched g first.log files.log
  pub db : IsUntouched g first.db files.db
