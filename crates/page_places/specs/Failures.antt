-- What a failure of the pages is for a caller: out of memory stays that, and all else is the store's.
use Rattle.std.specs.Prelude.{◌≡◌, ◌⊎◌}
use Rattle.sqlite_disk.specs.declared.Disk.{Ghosts}
use Rattle.page_files.specs.declared.files.PageFile.{PageFile}
use Rattle.page_files.specs.Writes.{FailsToWrite}
use Rattle.plain_tables.specs.declared.errors.StoreError.{StoreError}
use Rattle.plain_tables.specs.declared.errors.StoreError.TheVariants.{Memory, Store}
use Rattle.page_rows.specs.declared.errors.WalkError.{WalkError}
use Rattle.page_rows.specs.declared.errors.WalkError.TheVariants.{Pages, Refused}
use Rattle.page_places.specs.declared.errors.RowError.{RowError}
use Rattle.page_places.specs.declared.errors.RowError.TheVariants as rows
use Rattle.sqlite_pages.specs.declared.error.Error.{Error}
use Rattle.sqlite_pages.specs.declared.error.Error.TheVariants.{OutOfMemory}

abbrev pub failure_of : Error → StoreError
failure_of OutOfMemory = Memory
failure_of e = Store

-- a row that was not written
abbrev pub failure_of_row : RowError → StoreError
failure_of_row (rows.Pages e) = failure_of e
failure_of_row rows.Unstorable = Store
failure_of_row rows.NoRowid = Store

-- what ended a walk
abbrev pub end_of_walk : WalkError StoreError → StoreError
end_of_walk (Pages error) = failure_of error
end_of_walk (Refused end) = end

-- it is a failure of the pages that has a cause
abbrev pub IsFailureOf : (Error → Type 0) → StoreError → Type 0
IsFailureOf HasCause e = (error : Error) × HasCause error × (e ≡ failure_of error)

-- why a call that writes fails: the pages were not written for a cause, or what is to be stored cannot be
abbrev pub FailsToStore : {D : Type 0} {g : Ghosts D} → PageFile D g → PageFile D g → Type 0 → StoreError → Type 0
FailsToStore old new CanBeStored e = IsFailureOf (FailsToWrite old new) e ⊎ ((e ≡ Store) × ¬ CanBeStored)
