-- Why the rows of a table may not be read.
use Rattle.std.specs.Prelude.{◌≡◌, ◌⊎◌, ◌<◌, ◌^◌, ℕ, List, Result, IfErr}
use Rattle.std.specs.List.{AllByRecursion}
use Rattle.sqlite_disk.specs.declared.Disk.{Ghosts}
use Rattle.sqlite_value.specs.Order.{Row}
use Rattle.page_files.specs.declared.files.PageFile.{PageFile}
use Rattle.page_files.specs.Files.{FailsToRead, IsFaithful}
use Rattle.page_places.specs.Failures.{IsFailureOf}
use Rattle.plain_tables.specs.declared.errors.StoreError.{StoreError}
use Rattle.plain_tables.specs.declared.errors.StoreError.TheVariants.{Memory}
use Rattle.prof_store.specs.Tables.{name_columns}
use Rattle.page_lists.specs.Names.{name_read}
use Rattle.page_lists.specs.Shown.{ShowsRows}

-- the row of a name whose number has 32 bits
abbrev pub IsNameRow : Row → Type 0
IsNameRow row = (n : ℕ) × (name : List ℕ) × (n < 2 ^ 32) × (row ≡ name_columns (name_read n name))

-- why a row is refused: memory ran out, or it is none of those that are read
abbrev pub RefusesRow : (Row → Type 0) → Row → StoreError → Type 0
RefusesRow IsRead row e = (e ≡ Memory) ⊎ ¬ (IsRead row)

module _ {D : Type 0} {g : Ghosts D} (old new : PageFile D g) where
  -- where all rows of the table are such as are read, a call that reads it fails only as its pages do
  abbrev pub ServesRows : {T : Type 0} → (Row → Type 0) → ℕ → Result T StoreError → Type 0
  ServesRows IsRead root result =
      IsFaithful new → (rows : List Row) → ShowsRows old root rows → AllByRecursion IsRead rows → IfErr result (IsFailureOf (FailsToRead old new))
