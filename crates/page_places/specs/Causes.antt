-- Why a row may not be written.
use Rattle.std.specs.Prelude.{◌≡◌, ◌^◌, ◌-◌, pos, List, Some}
use Rattle.sqlite_disk.specs.declared.Disk.{Ghosts}
use Rattle.sqlite_pages.specs.declared.error.Error.TheVariants.{OutOfMemory}
use Rattle.page_files.specs.declared.files.PageFile.{PageFile}
use Rattle.page_files.specs.Files.{FailsToRead}
use Rattle.page_files.specs.Lasts.{IsLastRowid}
use Rattle.page_files.specs.Writes.{FailsToWrite}
use Rattle.sqlite_value.specs.Order.{Row}
use Rattle.page_places.specs.declared.errors.RowError.{RowError}
use Rattle.page_places.specs.declared.errors.RowError.TheVariants.{Pages, Unstorable, NoRowid}

-- memory ran out, or the row is not storable
abbrev pub IsRefused : Type 0 → RowError → Type 0
IsRefused IsStorable (Pages e) = e ≡ OutOfMemory
IsRefused IsStorable Unstorable = ¬ IsStorable
IsRefused IsStorable NoRowid = ⊥

-- the pages were not written for a cause, or the row is not storable
abbrev pub FailsToChange : {D : Type 0} {g : Ghosts D} → PageFile D g → PageFile D g → Type 0 → RowError → Type 0
FailsToChange old new IsStorable (Pages e) = FailsToWrite old new e
FailsToChange old new IsStorable Unstorable = ¬ IsStorable
FailsToChange old new IsStorable NoRowid = ⊥

-- the pages were not read for a cause, or the last row has the greatest rowid
abbrev pub FailsToNumber : {D : Type 0} {g : Ghosts D} → PageFile D g → PageFile D g → List Row → RowError → Type 0
FailsToNumber old new rows (Pages e) = FailsToRead old new e
FailsToNumber old new rows Unstorable = ⊥
FailsToNumber old new rows NoRowid = IsLastRowid rows (Some (pos (2 ^ 63 - 1)))

-- the pages were not read for a cause
abbrev pub FailsToFind : {D : Type 0} {g : Ghosts D} → PageFile D g → PageFile D g → RowError → Type 0
FailsToFind old new (Pages e) = FailsToRead old new e
FailsToFind old new Unstorable = ⊥
FailsToFind old new NoRowid = ⊥
