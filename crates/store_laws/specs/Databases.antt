-- What a database holds that takes up the files of a store in pages, and why it does not.
use Rattle.std.specs.Prelude.{◌≡◌, ◌⊎◌}
use Rattle.sqlite.specs.Files.{file_state, faults_left, IsCleanLeft, IsFullLeft}
use Rattle.sqlite.specs.Held.{Held}
use Rattle.sqlite.specs.State.{HasCleanDisk, store_error}
use Rattle.sqlite.specs.declared.error.Error.{Error}
use Rattle.sqlite.specs.declared.file.Leftover.{Leftover}
use Rattle.sqlite.specs.declared.file.Leftover.TheVariants as left
use Rattle.sqlite_disk.specs.Disk.{MoreFaults}
use Rattle.sqlite_disk.specs.declared.Disk.{Ghosts}
use Rattle.sqlite_store.specs.FileStore.{recovers}
use Rattle.sqlite_store.specs.Unopened.{state_of}
use Rattle.sqlite_store.specs.declared.store.FileStore.{FileStore}
use Rattle.sqlite_trees.specs.Tree.{Trees}
use Rattle.sqlite_trees.specs.declared.error.StoreError.TheVariants.{OutOfMemory, Io, Corrupt, Full}
use Rattle.sqlite_wal.specs.Files.{outcomes}
use Rattle.sqlite_wal.specs.Recovery.{Image}
use Rattle.plain_tables.specs.Tables.{Tables}
use Rattle.sql_tables.specs.States.{Rests}
use Rattle.prof_store.specs.Schema.{schema_two}
use Rattle.prof_store.specs.Tables.{Holds}
use Rattle.store_paths.specs.Shown.{HoldsRows}
use Rattle.page_runs.specs.States.{faults, Represents}
use Rattle.page_runs.specs.declared.store.PageRuns.{PageRuns}

-- a failure of a disk: of a call, of a read whose bytes had changed, or for want of room
abbrev pub IsOfDisk : Error → Type 0
IsOfDisk e = (e ≡ store_error Io) ⊎ ((e ≡ store_error Corrupt) ⊎ (e ≡ store_error Full))

module _ {D : Type 0} {g : Ghosts D} where
  -- it is the database of a store by SQL, which represents the rows that the pages represented
  abbrev pub HoldsRepresented : PageRuns D g → Held (FileStore D g) → Type 0
  HoldsRepresented store conn = HasCleanDisk (file_state conn) → (t : Tables) → Represents t store → Rests schema_two (Holds t) (file_state conn)

  -- memory ran out, a disk failed since, or a file is as long as the format allows
  abbrev pub HasCause : PageRuns D g → Leftover D g → Error → Type 0
  HasCause store rest e =
      (e ≡ store_error OutOfMemory) ⊎ ((IsOfDisk e × MoreFaults (faults store) (faults_left rest)) ⊎ ((e ≡ store_error Full) × IsFullLeft rest))

  -- what is left of the files of a store that represents rows is never refused for what it holds
  abbrev pub FailsForCause : PageRuns D g → Leftover D g → Error → Type 0
  FailsForCause store rest e = IsCleanLeft rest → (t : Tables) → Represents t store → HasCause store rest e

  -- whatever a crash leaves then, it holds these rows
  abbrev pub LeavesRows : Tables → Leftover D g → Type 0
  LeavesRows t (left.Files now) = (image : Image) → outcomes g now.log now.db image → HoldsRows image t
  LeavesRows t (left.Unopened now) = (image : Image) → (state_of now).may_leave image → HoldsRows image t
  LeavesRows t (left.Store now) = (db : Trees) → recovers now db → Holds t db

  -- a database that is not opened has lost nothing
  abbrev pub LeavesRepresented : PageRuns D g → Leftover D g → Type 0
  LeavesRepresented store rest = IsCleanLeft rest → (t : Tables) → Represents t store → LeavesRows t rest
