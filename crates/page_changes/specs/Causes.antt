-- What a change of the groups needs, so that only the pages can fail.
use Rattle.std.specs.Prelude.{◌≡◌, ◌⊎◌, ◌<◌, ◌∷◌, ◌^◌, ◌-◌, [], pos, ℕ, ℤ, true, false, Option, None, Some, List}
use Rattle.std.specs.List.{AllByRecursion}
use Rattle.sqlite_disk.specs.declared.Disk.{Ghosts}
use Rattle.sqlite_rules.specs.Edit.{next_rowid}
use Rattle.sqlite_rules.specs.Lists.{Has}
use Rattle.sqlite_schema.specs.declared.schema.Index.{Index}
use Rattle.sqlite_store.specs.declared.catalog.Wanted.{Wanted}
use Rattle.sqlite_trees.specs.Tree.{Trees}
use Rattle.sqlite_trees.specs.View.{IsStorableRow}
use Rattle.sqlite_value.specs.declared.value.Value.TheVariants.{Int, Text}
use Rattle.sqlite_value.specs.Order.{Row}
use Rattle.page_files.specs.declared.files.PageFile.{PageFile}
use Rattle.page_files.specs.Files.{FailsToRead, IsFaithful, IsUsable}
use Rattle.page_files.specs.Held.{Rests}
use Rattle.page_files.specs.Lasts.{IsLastRowid}
use Rattle.page_places.specs.declared.roots.StoreRoots.{StoreRoots}
use Rattle.page_changes.specs.Named.{CanBeFound, HasOutOfForm, IsNarrow, named}
use Rattle.page_places.specs.Failures.{FailsToStore, IsFailureOf}
use Rattle.page_places.specs.Roots.{AreRoots}
use Rattle.plain_tables.specs.Changes.{has_group, has_member, has_run}
use Rattle.plain_tables.specs.Tables.{Tables, GroupRow, MemberRow}
use Rattle.plain_tables.specs.declared.errors.StoreError.{StoreError}
use Rattle.plain_tables.specs.declared.errors.StoreError.TheVariants.{Store}
use Rattle.page_places.specs.Changes.{AreStorable}
use Rattle.page_places.specs.Places.{indexes_of}
use Rattle.run_lists.specs.Listed.{AreListed}
use Rattle.run_lists.specs.declared.listed.RunLists.{RunLists}
use Rattle.prof_store.specs.Schema.{schema_two, grp_at, member_at}
use Rattle.prof_store.specs.Tables.{Holds, number_or_null}

-- there is a rowid above those of the rows, and the row with these columns and its entries can be written as records
pub record CanFollow (columns : Row) (rows : List Row) (indexes : List Index) : Type 0 where
  pub room : IsLastRowid rows (Some (pos (2 ^ 63 - 1))) → ⊥
  pub row : IsStorableRow 0 (Int (next_rowid rows) ∷ columns)
  pub entries : AreStorable (Int (next_rowid rows) ∷ columns) indexes

-- a member of this group and run can be put behind the others
abbrev pub HasRoomForMember : List ℕ → ℕ → Trees → Type 0
HasRoomForMember name run db = CanFollow (Text name ∷ number_or_null (Some run) ∷ []) (db member_at.tree) (indexes_of schema_two member_at)

-- and a group of this name
abbrev pub HasRoomForGroup : List ℕ → Trees → Type 0
HasRoomForGroup name db = CanFollow (Text name ∷ number_or_null None ∷ []) (db grp_at.tree) (indexes_of schema_two grp_at)

-- no group has the name, and there is room for one
pub record CanMake (name : List ℕ) (t : Tables) (db : Trees) : Type 0 where
  pub fresh : has_group t name ≡ false
  pub room : HasRoomForGroup name db

-- each run that is a member has 32 bits
abbrev pub HasNarrowMembers : Tables → Type 0
HasNarrowMembers t = AllByRecursion (λ (m : MemberRow). m.run < 2 ^ 32) t.members

-- and each baseline
abbrev pub HasNarrowBaselines : Tables → Type 0
HasNarrowBaselines t = AllByRecursion (λ (x : GroupRow). IsNarrow x.baseline) t.groups

-- the row of a group of this name can be written as a record, with the run as its baseline
abbrev pub HasRoomForBaseline : List ℕ → ℕ → Trees → Type 0
HasRoomForBaseline name run db = (id : ℤ) (n : Option ℕ) → Has (db grp_at.tree) (named id name n) → IsStorableRow 0 (named id name (Some run))

-- the row of the group can be found, and written so
pub record CanPutBaseline (name : List ℕ) (run : ℕ) (db : Trees) : Type 0 where
  pub found : CanBeFound name None (db grp_at.tree)
  pub room : HasRoomForBaseline name run db

-- a group of the name is held, and the rows of groups can be read
pub record CanDropGroup (name : List ℕ) (t : Tables) : Type 0 where
  pub grouped : has_group t name ≡ true
  pub narrow : HasNarrowBaselines t

module _ {D : Type 0} {g : Ghosts D} where
  -- why a row may not be sought among these: the pages were not read for a cause, or one is out of form
  abbrev pub FailsToSeek : PageFile D g → PageFile D g → List Row → StoreError → Type 0
  FailsToSeek old new rows e = IsFailureOf (FailsToRead old new) e ⊎ ((e ≡ Store) × HasOutOfForm rows)

  -- the rows of members can be read, and the file can be used
  pub record CanTakeOut (file : PageFile D g) (t : Tables) : Type 0 where
    pub usable : IsUsable file
    pub narrow : HasNarrowMembers t

  -- where the group is held, so is the run; the rows of groups can be read, that of the group can be written, and the file can be used
  pub record CanRebase (file : PageFile D g) (name : List ℕ) (run : ℕ) (t : Tables) (db : Trees) : Type 0 where
    pub usable : IsUsable file
    pub held : has_group t name ≡ true → has_run t run ≡ true
    pub narrow : HasNarrowBaselines t
    pub room : HasRoomForBaseline name run db

  -- the group and the run are held, there is room where the run is not in the group, and the file can be used
  pub record CanTakeIn (file : PageFile D g) (name : List ℕ) (run : ℕ) (t : Tables) (db : Trees) : Type 0 where
    pub usable : IsUsable file
    pub grouped : has_group t name ≡ true
    pub held : has_run t run ≡ true
    pub room : has_member t name run ≡ false → HasRoomForMember name run db

  -- where the file rests on a store, this was missing, or the pages were not read or written for a cause
  abbrev pub FailsWithout : PageFile D g → PageFile D g → StoreRoots → RunLists → (Tables → Trees → Type 0) → StoreError → Type 0
  FailsWithout old new roots lists Can e =
      IsFaithful new → (wanted : List Wanted) (known : List ℕ) (db : Trees) (t : Tables) → Rests wanted known db old → Holds t db → AreListed t lists → AreRoots known roots
      → FailsToStore old new (Can t db) e
