-- Entries of the index of names, and the name that is sought among them.
use Rattle.std.specs.Prelude.{◌≡◌, ◌≢◌, ◌⊎◌, ◌<◌, ◌≤◌, ◌^◌, ℕ, List, [], ◌∷◌, Option, None, Some, Result, MatchResult, slice_index}
use Rattle.sqlite_disk.specs.declared.Disk.{Ghosts}
use Rattle.sqlite_value.specs.declared.value.Value.TheVariants.{Blob}
use Rattle.sqlite_value.specs.Order.{Row}
use Rattle.page_files.specs.declared.files.PageFile.{PageFile}
use Rattle.page_files.specs.Files.{IsFaithful, FailsToRead}
use Rattle.plain_tables.specs.Lists.{Has}
use Rattle.plain_tables.specs.Tables.{Tables, NameRow}
use Rattle.plain_tables.specs.declared.errors.StoreError.{StoreError}
use Rattle.plain_tables.specs.declared.errors.StoreError.TheVariants.{Store}
use Rattle.prof_store.specs.Names.{number_if_held}
use Rattle.prof_store.specs.Tables.{number}
use Rattle.page_places.specs.Failures.{IsFailureOf}
use Rattle.page_places.specs.Stores.{ShowsNames}

-- the entry is of this name and number, or of another name
abbrev pub IsFound : List ℕ → Row → Option ℕ → Type 0
IsFound name entry (Some n) = entry ≡ Blob name ∷ number n ∷ []
IsFound name entry None = (other : List ℕ) × (n : ℕ) × (other ≢ name) × (entry ≡ Blob other ∷ number n ∷ [])

-- one entry was taken, in which the name was found or not
abbrev pub EndsAt : List ℕ → List Row → Option ℕ → Type 0
EndsAt name entries found = (entry : Row) × (entries ≡ entry ∷ []) × IsFound name entry found

-- the entry is of no name and number of 32 bits
abbrev pub IsOutOfForm : Row → Type 0
IsOutOfForm entry = (name : List ℕ) (n : ℕ) → n < 2 ^ 32 → entry ≢ Blob name ∷ number n ∷ []

-- such an entry is refused
abbrev pub IsRefused : Row → StoreError → Type 0
IsRefused entry e = (e ≡ Store) × IsOutOfForm entry

-- the number of a name has more than 32 bits: the program makes none, but the tables can hold them, and rows with negative ones are read so
pub record HasWideNumber (t : Tables) : Type 0 where
  pub line : NameRow
  pub there : Has t.names line
  pub wide : 2 ^ 32 ≤ line.number

module _ {D : Type 0} {g : Ghosts D} (old new : PageFile D g) where
  -- why a name may not be found: the pages were not read for a cause, or a number is too great
  abbrev pub FailsToFind : Tables → StoreError → Type 0
  FailsToFind t e = IsFailureOf (FailsToRead old new) e ⊎ ((e ≡ Store) × HasWideNumber t)

  -- under the root of the index of names, the number of this name is found, if it is held
  abbrev pub FindsName : ℕ → List ℕ → Result (Option ℕ) StoreError → Type 0
  FindsName root name result =
      IsFaithful new → (t : Tables) (known : List ℕ) → ShowsNames t known old → root ≡ slice_index known 12
      → MatchResult result (λ found. found ≡ number_if_held t name) (FailsToFind t)
