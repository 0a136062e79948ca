-- What a step of an import makes of the tables that a transaction shows.
use Rattle.std.specs.Prelude.{◌≡◌, ◌==◌, ℕ, false, List, [], ◌∷◌, map, Result, MatchResult}
use Rattle.std.specs.List.{list_any}
use Rattle.sqlite_disk.specs.declared.Disk.{Ghosts}
use Rattle.sqlite_rules.specs.Lists.{Has}
use Rattle.sqlite_schema.specs.declared.schema.Table.{Table}
use Rattle.sqlite_store.specs.declared.catalog.Wanted.{Wanted}
use Rattle.sqlite_trees.specs.Tree.{Trees}
use Rattle.sqlite_value.specs.Order.{Row}
use Rattle.page_files.specs.declared.files.PageFile.{PageFile}
use Rattle.page_files.specs.Files.{IsFaithful}
use Rattle.page_files.specs.Held.{Rests, Writes}
use Rattle.page_places.specs.declared.roots.StoreRoots.{StoreRoots}
use Rattle.page_places.specs.Failures.{FailsToStore}
use Rattle.page_places.specs.Roots.{AreRoots}
use Rattle.plain_tables.specs.Tables.{Tables}
use Rattle.plain_tables.specs.declared.errors.StoreError.{StoreError}
use Rattle.run_stores.specs.BookRuns.{Filed}
use Rattle.run_stores.specs.Files.{with_head}
use Rattle.prof_store.specs.Schema.{schema_two, meta_at, run_at, run_event_at, derived_at, coef_at, name_at, arc_at, stack_at, thread_cell_at}
use Rattle.prof_store.specs.Tables.{Holds}
use Rattle.page_imports.specs.Causes.{CanBePut}
use Rattle.page_imports.specs.Imports.{IsNew}
use Rattle.page_imports.specs.Needs.{CanFill}

-- each table but these has the rows that it had
abbrev pub KeepsOthers : List Table → Trees → Trees → Type 0
KeepsOthers changed now next =
    (table : Table) → Has schema_two.tables table → list_any (λ (other : Table). other.tree == table.tree) changed ≡ false → next table.tree ≡ now table.tree

-- the tables of what a run says of itself
abbrev pub head_tables : List Table
head_tables = meta_at ∷ run_at ∷ run_event_at ∷ derived_at ∷ coef_at ∷ []

-- those of names and of rows
abbrev pub row_tables : List Table
row_tables = name_at ∷ thread_cell_at ∷ arc_at ∷ stack_at ∷ []

module _ {D : Type 0} {g : Ghosts D} where
  -- within a transaction the file shows these tables
  pub record ShowsTables (wanted : List Wanted) (known : List ℕ) (was : Trees) (t : Tables) (it : PageFile D g) : Type 0 where
    pub next : Trees
    pub writes : Writes wanted known was next it
    pub holds : Holds t next

  -- it does after a step, in which no other tables than these changed
  pub record HasMade (changed : List Table) (wanted : List Wanted) (known : List ℕ) (was now : Trees) (t : Tables) (it : PageFile D g) : Type 0 where
    pub shows : ShowsTables wanted known was t it
    pub kept : KeepsOthers changed now shows.next

  -- where it shows tables that are such as a step needs, under these roots, it shows the changed tables then; or there is a cause, where this may be missing
  abbrev pub Makes : PageFile D g → PageFile D g → StoreRoots → List Table → (Tables → Type 0) → (Tables → Tables) → (Tables → Trees → Type 0)
      → {A : Type 0} → Result A StoreError → Type 0
  Makes old new roots changed Needs change Can result =
      IsFaithful new → (wanted : List Wanted) (known : List ℕ) (was : Trees) (t : Tables) (shows : ShowsTables wanted known was t old) → AreRoots known roots
      → Needs t → MatchResult result (λ _. HasMade changed wanted known was shows.next (change t) new) (FailsToStore old new (Can t shows.next))

  -- the same, and of the changed tables this is told
  abbrev pub MakesTelling : PageFile D g → PageFile D g → StoreRoots → List Table → (Tables → Tables) → (Tables → Trees → Type 0)
      → {A : Type 0} → Result A StoreError → (Tables → A → Type 0) → Type 0
  MakesTelling old new roots changed change Can result Told =
      IsFaithful new → (wanted : List Wanted) (known : List ℕ) (was : Trees) (t : Tables) (shows : ShowsTables wanted known was t old) → AreRoots known roots
      → MatchResult result (λ answer. HasMade changed wanted known was shows.next (change t) new × Told (change t) answer) (FailsToStore old new (Can t shows.next))

  -- where it shows tables under these roots, this is told of them; or there is a cause, where this may be missing
  abbrev pub Tells : PageFile D g → PageFile D g → StoreRoots → (Tables → Type 0) → {A : Type 0} → Result A StoreError → (Tables → A → Type 0) → Type 0
  Tells old new roots Can result Told =
      IsFaithful new → (wanted : List Wanted) (known : List ℕ) (was : Trees) (t : Tables) → ShowsTables wanted known was t old → AreRoots known roots
      → MatchResult result (Told t) (FailsToStore old new (Can t))

  -- lines of a run that is held and has none yet come behind the others, as rows of these columns
  abbrev pub PutsLines : {X : Type 0} → PageFile D g → PageFile D g → StoreRoots → Table → (Tables → List X) → (X → ℕ) → (X → Row)
      → (List X → Tables → Tables) → List X → {A : Type 0} → Result A StoreError → Type 0
  PutsLines old new roots table lines run columns with_lines news result =
      (n : ℕ) → Makes old new roots (table ∷ []) (CanFill lines run n news) (with_lines news) (λ _. CanBePut table (map columns news)) result

  -- where the file rests on a store in which this run would be a new one, a transaction has begun in which what it says of itself was put in,
  -- and these are the roots of its tables; or there is a cause, where this may be missing
  abbrev pub Begins : PageFile D g → PageFile D g → Filed → (Tables → Trees → Type 0) → Result StoreRoots StoreError → Type 0
  Begins old new f Can result =
      IsFaithful new → (wanted : List Wanted) (known : List ℕ) (db : Trees) (t : Tables) → Rests wanted known db old → Holds t db
      → IsNew f.line.number f.line.digest t
      → MatchResult result (λ roots. AreRoots known roots × HasMade head_tables wanted known db db (with_head f.line f.events f.derived f.coefs t) new)
      (FailsToStore old new (Can t db))
