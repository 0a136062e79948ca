-- What a change of the groups makes of a store.
use Rattle.std.specs.Prelude.{◌≡◌, ◌∷◌, ◌++◌, [], ℕ, true, false, not, bytes_eq, List, Option, filter, Result, MatchResult, OnOk}
use Rattle.std.specs.List.{list_any}
use Rattle.sqlite_disk.specs.declared.Disk.{Ghosts}
use Rattle.sqlite_store.specs.declared.catalog.Wanted.{Wanted}
use Rattle.sqlite_rules.specs.Edit.{next_rowid}
use Rattle.sqlite_schema.specs.declared.schema.Schema.{Schema}
use Rattle.sqlite_schema.specs.declared.schema.Table.{Table}
use Rattle.sqlite_trees.specs.Tree.{Trees, without_rowid}
use Rattle.sqlite_value.specs.declared.value.Value.TheVariants.{Int}
use Rattle.sqlite_value.specs.Order.{Row}
use Rattle.page_places.specs.declared.places.Place.{Place}
use Rattle.page_places.specs.Changes.{AtTable, HasRows}
use Rattle.page_changes.specs.declared.finding.NamedRow.{NamedRow}
use Rattle.page_changes.specs.Causes.{CanFollow}
use Rattle.page_changes.specs.Named.{CanBeFound, IsRowFound}
use Rattle.page_places.specs.Failures.{FailsToStore}
use Rattle.plain_tables.specs.declared.errors.StoreError.{StoreError}
use Rattle.page_places.specs.Places.{indexes_of}
use Rattle.page_files.specs.declared.files.PageFile.{PageFile}
use Rattle.page_files.specs.Files.{IsFaithful}
use Rattle.page_files.specs.Held.{Rests, Writes}
use Rattle.plain_tables.specs.Changes.{has_group, has_member, has_run, is_named}
use Rattle.plain_tables.specs.Tables.{Tables, MemberRow}
use Rattle.run_lists.specs.Listed.{AreListed}
use Rattle.run_lists.specs.declared.listed.RunLists.{RunLists}
use Rattle.prof_store.specs.Tables.{Holds}
use Rattle.page_places.specs.declared.roots.StoreRoots.{StoreRoots}
use Rattle.page_places.specs.Roots.{AreRoots}

module _ {D : Type 0} {g : Ghosts D} where
  -- where the file rests on a store, a transaction has begun in it that holds the changed tables
  abbrev pub Changes : PageFile D g → PageFile D g → StoreRoots → RunLists → (Tables → Tables) → {A E : Type 0} → Result A E → Type 0
  Changes old new roots lists change result =
      IsFaithful new → (wanted : List Wanted) (known : List ℕ) (db : Trees) (t : Tables) → Rests wanted known db old → Holds t db → AreListed t lists → AreRoots known roots
      → OnOk result ((next : Trees) × Writes wanted known db next new × Holds (change t) next)

  -- the same within a transaction, for tables of which a fact holds; or there is a cause, where this may be missing
  abbrev pub MakesWithin : PageFile D g → PageFile D g → StoreRoots → (Tables → Type 0) → (Tables → Tables) → (Tables → Trees → Type 0) → {A : Type 0} → Result A StoreError → Type 0
  MakesWithin old new roots Fact change Can result =
      IsFaithful new → (wanted : List Wanted) (known : List ℕ) (was now : Trees) (t : Tables) → Writes wanted known was now old → Holds t now → AreRoots known roots → Fact t
      → MatchResult result (λ _. (next : Trees) × Writes wanted known was next new × Holds (change t) next) (FailsToStore old new (Can t now))

  module _ (old new : PageFile D g) where
    -- the table at this place has a row of these columns behind the others, or there is a cause
    abbrev pub PutsBehind : Place → Row → {A : Type 0} → Result A StoreError → Type 0
    PutsBehind place columns result =
        AtTable old new place (λ schema wanted roots was now table.
        MatchResult result (λ _. HasRows schema wanted roots was now table (now table.tree ++ (Int (next_rowid (now table.tree)) ∷ columns) ∷ []) new)
        (FailsToStore old new (CanFollow columns (now table.tree) (indexes_of schema table))))

    -- a row of the name, and of the number that is sought, is gone from the table
    pub record HasErased (schema : Schema) (wanted : List Wanted) (roots : List ℕ) (was now : Trees) (table : Table) (name : List ℕ) (sought : Option ℕ) : Type 0 where
      pub row : NamedRow
      pub found : IsRowFound name sought (now table.tree) row
      pub rows : HasRows schema wanted roots was now table (without_rowid row.rowid (now table.tree)) new

    -- or there is a cause
    abbrev pub ErasesNamed : Place → List ℕ → Option ℕ → {A : Type 0} → Result A StoreError → Type 0
    ErasesNamed place name sought result =
        AtTable old new place (λ schema wanted roots was now table.
        MatchResult result (λ _. HasErased schema wanted roots was now table name sought) (FailsToStore old new (CanBeFound name sought (now table.tree))))

-- the group and the run are held, and the run is not in the group
pub record CanJoin (name : List ℕ) (run : ℕ) (t : Tables) : Type 0 where
  pub grouped : has_group t name ≡ true
  pub held : has_run t run ≡ true
  pub none : has_member t name run ≡ false

-- no run is in the group
abbrev pub HasNoMember : List ℕ → Tables → Type 0
HasNoMember name t = list_any (λ (m : MemberRow). bytes_eq m.group name) t.members ≡ false

-- the members of a group are gone
abbrev pub without_members : List ℕ → Tables → Tables
without_members name t = record t { members = filter (λ (m : MemberRow). not (bytes_eq m.group name)) t.members }

-- the group itself is gone
abbrev pub without_named : List ℕ → Tables → Tables
without_named name t = record t { groups = filter (λ g. not (is_named name g)) t.groups }
