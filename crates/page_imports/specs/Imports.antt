-- What it means that a file is put into a store as a run.
use Rattle.std.specs.Prelude.{◌≡◌, ◌≢◌, ℕ, nat_lt, Bool, not, List, Result, OnOk}
use Rattle.sqlite_disk.specs.declared.Disk.{Ghosts}
use Rattle.sqlite_store.specs.declared.catalog.Wanted.{Wanted}
use Rattle.sqlite_trees.specs.Tree.{Trees}
use Rattle.page_files.specs.declared.files.PageFile.{PageFile}
use Rattle.page_files.specs.Files.{IsFaithful}
use Rattle.page_files.specs.Held.{Rests, Writes}
use Rattle.plain_tables.specs.Lists.{Has}
use Rattle.plain_tables.specs.Tables.{Tables, RunRow}
use Rattle.run_lists.specs.Listed.{AreListed}
use Rattle.run_lists.specs.declared.listed.ListedRun.{ListedRun}
use Rattle.run_lists.specs.declared.listed.RunLists.{RunLists}
use Rattle.prof_store.specs.Tables.{Holds}

-- a run under this number and with this digest would be a new one
pub record IsNew (number : ℕ) (digest : List ℕ) (t : Tables) : Type 0 where
  pub next : t.next ≡ number
  pub none : (r : RunRow) → Has t.runs r → r.digest ≢ digest

-- a run that is listed has this number or a greater one
abbrev pub reaches : ℕ → ListedRun → Bool
reaches number line = not (nat_lt line.entry.number number)

module _ {D : Type 0} {g : Ghosts D} where
  -- where the file rests on a store whose small tables are listed, a transaction has begun in it that holds the changed tables
  abbrev pub Imports : PageFile D g → PageFile D g → RunLists → (Tables → Tables) → {A E : Type 0} → Result A E → Type 0
  Imports old new lists change result =
      IsFaithful new → (wanted : List Wanted) (known : List ℕ) (db : Trees) (t : Tables) → Rests wanted known db old → Holds t db → AreListed t lists
      → OnOk result ((next : Trees) × Writes wanted known db next new × Holds (change t) next)
