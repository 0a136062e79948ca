-- What an opened file shows, and what calls leave of it.
use Rattle.std.specs.Prelude.{◌≡◌, ℕ, IsTrue, OnOk, Result}
use Rattle.sqlite_disk.specs.declared.Disk.{Ghosts}
use Rattle.sqlite_pages.specs.PageMap.{PageMap}
use Rattle.sqlite_pages.specs.Outcome.{HasCause}
use Rattle.sqlite_pages.specs.declared.error.Error.{Error}
use Rattle.sqlite_pool.specs.Pool as pools
use Rattle.sqlite_pool.specs.Stored.{Keeps}
use Rattle.sqlite_wal.specs.Recovery.{Image}
use Rattle.page_files.specs.declared.files.PageFile.{PageFile}

module _ {D : Type 0} {g : Ghosts D} where
  -- the bytes of a page that are used
  abbrev pub page_size : PageFile D g → ℕ
  page_size it = (pools.state it.pool).page_size

  -- the log and the database file
  abbrev pub files_of : PageFile D g → D × D
  files_of it = pools.files it.pool

  -- what a crash may leave of them
  abbrev pub may_leave : PageFile D g → Image → Type 0
  may_leave it = (pools.state it.pool).may_leave

  -- how often a disk has failed
  abbrev pub faults : PageFile D g → ℕ
  faults it = (pools.state it.pool).faults

  -- so far no wrong answer of the disk has been taken as true
  abbrev pub IsFaithful : PageFile D g → Type 0
  IsFaithful it = IsTrue (pools.state it.pool).is_clean

  -- nothing has failed for good: once it has, each call fails until the files are opened again
  abbrev pub IsUsable : PageFile D g → Type 0
  IsUsable it = IsTrue (pools.state it.pool).is_ready

  -- what a call that writes leaves: a file that can be used, where it was done, and no fewer promises of its pages
  pub record LeavesUsable (old new : PageFile D g) {A E : Type 0} (result : Result A E) : Type 0 where
    pub usable : OnOk result (IsUsable new)
    pub keeps : Keeps (pools.state old.pool) (pools.state new.pool)

  -- the pages that trees may own, as they are read: also those that are written and not committed
  abbrev pub pages_of : PageFile D g → PageMap
  pages_of it = pools.usable it.pool

  -- why a call that reads may fail: the disk failed in it or before it, or memory ran out
  abbrev pub FailsToRead : PageFile D g → PageFile D g → Error → Type 0
  FailsToRead old new = HasCause (faults old) (pools.ending new.pool) ⊥

  -- a call that reads: it shows the same pages, commits nothing, and a crash leaves nothing new
  pub record OnlyReads (old new : PageFile D g) : Type 0 where
    pub keeps : Keeps (pools.state old.pool) (pools.state new.pool)
    pub marks : pools.KeepsMarks old.pool new.pool
    pub pages : pages_of new ≡ pages_of old
