-- What a removal of a run makes of a store.
use Rattle.std.specs.Prelude.{◌≡◌, ◌==◌, ℕ, ℤ, pos, Bool, true, false, not, List, ◌∷◌, filter, map, Some, Result, MatchResult, OnOk, ⊤}
use Rattle.std.specs.List.{list_any}
use Rattle.std.specs.Ordering.{is_eq}
use Rattle.sqlite_disk.specs.declared.Disk.{Ghosts}
use Rattle.sqlite_store.specs.declared.catalog.Wanted.{Wanted}
use Rattle.sqlite_trees.specs.Tree.{Trees, put_row, rowid}
use Rattle.sqlite_rules.specs.Edit.{id_in}
use Rattle.sqlite_rules.specs.Lists.{Has}
use Rattle.sqlite_value.specs.declared.value.Value.TheVariants.{Int}
use Rattle.sqlite_value.specs.Order.{Row, column, value_cmp}
use Rattle.page_files.specs.declared.files.PageFile.{PageFile}
use Rattle.page_files.specs.Files.{IsFaithful}
use Rattle.page_files.specs.Held.{Rests, Writes}
use Rattle.plain_tables.specs.Changes.{has_baseline, has_run, unbased, without_run}
use Rattle.page_places.specs.Failures.{FailsToStore}
use Rattle.plain_tables.specs.declared.errors.StoreError.{StoreError}
use Rattle.plain_tables.specs.Tables.{Tables, EventRow, DerivedRow, CoefRow, StoredCell, StoredCall, StoredStack, GroupRow, MemberRow}
use Rattle.page_places.specs.declared.places.Place.{Place}
use Rattle.page_places.specs.Changes.{AtTable, HasRows, Shows}
use Rattle.page_places.specs.Places.{indexes_of}
use Rattle.row_writes.specs.Tests.{rows_left}
use Rattle.row_writes.specs.Under.{AreLed, is_under}
use Rattle.run_lists.specs.Listed.{AreListed}
use Rattle.run_lists.specs.declared.listed.RunLists.{RunLists}
use Rattle.prof_store.specs.Schema.{schema_two, grp_at}
use Rattle.prof_store.specs.Tables.{Holds, group_columns}
use Rattle.page_places.specs.Unused.{but_its_row, cleared}
use Rattle.page_places.specs.declared.roots.StoreRoots.{StoreRoots}
use Rattle.page_places.specs.Roots.{AreRoots}

-- ---- the parts of a removal

-- without what a run says of its events
abbrev pub without_events : ℕ → Tables → Tables
without_events n t = record t {
  events = filter (λ (e : EventRow). not (e.run == n)) t.events;
  derived = filter (λ (d : DerivedRow). not (d.run == n)) t.derived;
  coefs = filter (λ (c : CoefRow). not (c.run == n)) t.coefs;
}

-- without its costs
abbrev pub without_costs : ℕ → Tables → Tables
without_costs n t = record t {
  cells = filter (λ (c : StoredCell). not (c.run == n)) t.cells;
  calls = filter (λ (a : StoredCall). not (a.run == n)) t.calls;
  stacks = filter (λ (s : StoredStack). not (s.run == n)) t.stacks;
}

-- in no group
abbrev pub without_memberships : ℕ → Tables → Tables
without_memberships n t = record t { members = filter (λ (m : MemberRow). not (m.run == n)) t.members }

-- and no baseline
abbrev pub without_baselines : ℕ → Tables → Tables
without_baselines n t = record t { groups = map (cleared n) t.groups }

-- ---- what a removal needs, so that only the pages can fail

-- the run is no group's baseline
abbrev pub IsNoBaseline : ℕ → Tables → Type 0
IsNoBaseline n t = list_any (has_baseline n) t.groups ≡ false

-- and it is held
pub record CanDrop (n : ℕ) (t : Tables) : Type 0 where
  pub held : has_run t n ≡ true
  pub unbased : IsNoBaseline n t

-- nothing
abbrev pub Anything : Tables → Type 0
Anything t = ⊤

-- ---- rows

-- whether the second column of a row is this run
abbrev pub is_second : ℕ → Row → Bool
is_second n row = is_eq (value_cmp (column row 2) (Int (pos n)))

-- the row of a group, under a rowid
abbrev pub group_at : ℤ → GroupRow → Row
group_at id g = Int id ∷ group_columns g

module _ {D : Type 0} {g : Ghosts D} (old new : PageFile D g) where
  -- where the file rests on a store whose small tables are in the lists, a transaction has begun in it that holds the tables without the run;
  -- or the pages were not read or written for a cause, or the run is not held, or is a baseline
  abbrev pub Drops : RunLists → ℕ → {A : Type 0} → Result A StoreError → Type 0
  Drops lists run result =
      IsFaithful new → (wanted : List Wanted) (known : List ℕ) (db : Trees) (t : Tables) → Rests wanted known db old → Holds t db → AreListed t lists
      → MatchResult result (λ _. (next : Trees) × Writes wanted known db next new × Holds (without_run run t) next) (FailsToStore old new (CanDrop run t))

  -- the rows of a run are gone from the table at this place, or the pages were not read or written for a cause
  abbrev pub ErasesRun : Place → ℕ → {A : Type 0} → Result A StoreError → Type 0
  ErasesRun place run result =
      AtTable old new place (λ schema wanted roots was now table. AreLed (now table.tree) (indexes_of schema table)
      → MatchResult result (λ _. HasRows schema wanted roots was now table (rows_left (is_under (pos run)) (now table.tree)) new) (FailsToStore old new ⊤))

  -- the group whose row has this rowid has lost its baseline, which was the run
  pub record HasCleared (wanted : List Wanted) (known : List ℕ) (was now : Trees) (id : ℤ) (n : ℕ) : Type 0 where
    pub group : GroupRow
    pub there : Has (now 19) (group_at id group)
    pub based : group.baseline ≡ Some n
    pub rows : HasRows schema_two wanted known was now grp_at (put_row (group_at id (unbased group)) (now 19)) new

  abbrev pub ClearsOne : Place → ℤ → ℕ → {A E : Type 0} → Result A E → Type 0
  ClearsOne place id n result =
      IsFaithful new → (wanted : List Wanted) (known : List ℕ) (was now : Trees) (t : Tables) → Holds t now → Shows place schema_two wanted known was now grp_at old
      → OnOk result (HasCleared wanted known was now id n)

  -- where each row whose baseline is the run has one of these rowids, its groups have none
  abbrev pub ClearsAll : Place → List ℤ → ℕ → {A E : Type 0} → Result A E → Type 0
  ClearsAll place ids n result =
      IsFaithful new → (wanted : List Wanted) (known : List ℕ) (was now : Trees) (t : Tables) → Holds t now → Shows place schema_two wanted known was now grp_at old
      → ((row : Row) → Has (now 19) row → is_second n row ≡ true → Has ids (id_in (rowid row)))
      → OnOk result ((next : Trees) × Writes wanted known was next new × Holds (without_baselines n t) next)

  -- where nothing else is of the run, its row goes, or the pages were not read or written for a cause
  abbrev pub DropsRow : StoreRoots → ℕ → {A : Type 0} → Result A StoreError → Type 0
  DropsRow roots n result =
      IsFaithful new → (wanted : List Wanted) (known : List ℕ) (was now : Trees) (t : Tables) → Writes wanted known was now old → Holds (but_its_row n t) now → AreRoots known roots
      → MatchResult result (λ _. (next : Trees) × Writes wanted known was next new × Holds (without_run n t) next) (FailsToStore old new ⊤)
