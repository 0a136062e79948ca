-- What a store in pages represents that takes up the files of a database.
use Rattle.sqlite.specs.Files.{file_state}
use Rattle.sqlite.specs.Held.{Held}
use Rattle.sqlite_disk.specs.declared.Disk.{Ghosts}
use Rattle.sqlite_store.specs.declared.store.FileStore.{FileStore}
use Rattle.plain_tables.specs.Tables.{Tables}
use Rattle.run_stores.specs.Order.{AreInOrder}
use Rattle.sql_tables.specs.States.{Rests}
use Rattle.prof_store.specs.Schema.{schema_two}
use Rattle.prof_store.specs.Tables.{Holds}
use Rattle.page_runs.specs.States.{IsFaithful, Represents}
use Rattle.page_runs.specs.declared.store.PageRuns.{PageRuns}

-- The kit promises of closed files only that some database is in them (`∥ ∥₁`), with no part of it to take out. So only
-- this is promised here: whatever has one proof at most, as an equation, follows.
module _ {D : Type 0} {g : Ghosts D} where
  -- it represents the rows that the last commit of the database holds, where those of runs are in the order of the runs
  abbrev pub RepresentsCommitted : Held (FileStore D g) → PageRuns D g → Type 0
  RepresentsCommitted conn store = IsFaithful store → (t : Tables) → Holds t (file_state conn).committed.trees → AreInOrder t → ∥ Represents t store ∥₁

  -- it represents the rows that a store by SQL represents over the database
  abbrev pub RepresentsStore : Held (FileStore D g) → PageRuns D g → Type 0
  RepresentsStore conn store = IsFaithful store → (t : Tables) → Rests schema_two (Holds t) (file_state conn) → AreInOrder t → ∥ Represents t store ∥₁
