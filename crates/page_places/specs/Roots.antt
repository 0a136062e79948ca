-- The root pages of the tables and indexes of a store.
use Rattle.std.specs.Prelude.{◌≡◌, ℕ, ◌<◌, List, None, Some, map, slice_get, slice_index}
use Rattle.std.specs.Borrow.{Bor}
use Rattle.sqlite_disk.specs.declared.Disk.{Ghosts}
use Rattle.sqlite_catalog.specs.Listing.{IsSound}
use Rattle.sqlite_schema.specs.declared.schema.Index.{Index}
use Rattle.sqlite_schema.specs.declared.schema.Table.{Table}
use Rattle.sqlite_store.specs.declared.catalog.Wanted.{Wanted}
use Rattle.sqlite_trees.specs.Tree.{Trees}
use Rattle.page_files.specs.declared.files.PageFile.{PageFile}
use Rattle.page_files.specs.Files.{pages_of, IsFaithful, FailsToRead}
use Rattle.page_files.specs.Trees.{StandsIn}
use Rattle.prof_store.specs.Schema.{schema_two, meta_at, run_at, run_event_at, derived_at, coef_at, name_at, arc_at, stack_at, grp_at, member_at, thread_cell_at}
use Rattle.plain_tables.specs.declared.errors.StoreError.{StoreError}
use Rattle.page_places.specs.Failures.{IsFailureOf}
use Rattle.page_places.specs.declared.roots.StoreRoots.{StoreRoots}

abbrev pub table_name : Table → List ℕ
table_name table = table.name

abbrev pub table_tree : Table → ℕ
table_tree table = table.tree

abbrev pub index_name : Index → List ℕ
index_name index = index.name

abbrev pub index_tree : Index → ℕ
index_tree index = index.tree

-- these are the names of tables or indexes, in order
abbrev pub AreNames : {X : Type 0} → List X → (X → List ℕ) → List (Bor (List ℕ)) → Type 0
AreNames items name names = map (λ (name : Bor (List ℕ)). name.now) names ≡ map name items

-- each of those before a place has the root that is listed for it, among those of all trees
pub record AreFound {X : Type 0} (items : List X) (tree : X → ℕ) (known roots : List ℕ) (at : ℕ) : Type 0 where
  pub is : (k : ℕ) → k < at → (x : X) → slice_get items k ≡ Some x → slice_index roots k ≡ slice_index known (tree x)

-- these are the roots of the tables and of their indexes, among those of all trees
pub record AreRoots (known : List ℕ) (roots : StoreRoots) : Type 0 where
  pub meta : roots.meta ≡ slice_index known meta_at.tree
  pub runs : roots.runs ≡ slice_index known run_at.tree
  pub run_digests : roots.run_digests ≡ slice_index known 2
  pub events : roots.events ≡ slice_index known run_event_at.tree
  pub event_places : roots.event_places ≡ slice_index known 4
  pub event_names : roots.event_names ≡ slice_index known 5
  pub derived : roots.derived ≡ slice_index known derived_at.tree
  pub derived_places : roots.derived_places ≡ slice_index known 7
  pub derived_names : roots.derived_names ≡ slice_index known 8
  pub coefs : roots.coefs ≡ slice_index known coef_at.tree
  pub coef_keys : roots.coef_keys ≡ slice_index known 10
  pub names : roots.names ≡ slice_index known name_at.tree
  pub name_bytes : roots.name_bytes ≡ slice_index known 12
  pub calls : roots.calls ≡ slice_index known arc_at.tree
  pub call_keys : roots.call_keys ≡ slice_index known 16
  pub stacks : roots.stacks ≡ slice_index known stack_at.tree
  pub stack_frames : roots.stack_frames ≡ slice_index known 18
  pub groups : roots.groups ≡ slice_index known grp_at.tree
  pub group_names : roots.group_names ≡ slice_index known 20
  pub members : roots.members ≡ slice_index known member_at.tree
  pub member_keys : roots.member_keys ≡ slice_index known 22
  pub cells : roots.cells ≡ slice_index known thread_cell_at.tree
  pub cell_keys : roots.cell_keys ≡ slice_index known 24

module _ {D : Type 0} {g : Ghosts D} where
  -- the file is a sound database of our tables, whatever stands in them, its trees are these, and their roots those
  pub record IsStoreOf (file : PageFile D g) (db : Trees) (known : List ℕ) : Type 0 where
    pub wanted : List Wanted
    pub stands : StandsIn wanted known db file
    pub no_zero : pages_of file 0 ≡ None
    pub sound : IsSound schema_two db

  -- this is the root of the table of this name in a store
  abbrev pub FindsTable : PageFile D g → PageFile D g → List ℕ → ℕ → Type 0
  FindsTable old new name root =
      IsFaithful new → (db : Trees) (known : List ℕ) → IsStoreOf old db known
      → (at : ℕ) (table : Table) → slice_get schema_two.tables at ≡ Some table → table.name ≡ name → root ≡ slice_index known table.tree

  -- in a store a table of this name is missed only where the pages were not read for a cause
  abbrev pub MissesTable : PageFile D g → PageFile D g → List ℕ → StoreError → Type 0
  MissesTable old new name e =
      IsFaithful new → (db : Trees) (known : List ℕ) → IsStoreOf old db known
      → (at : ℕ) (table : Table) → slice_get schema_two.tables at ≡ Some table → table.name ≡ name → IsFailureOf (FailsToRead old new) e

  -- and so an index
  abbrev pub MissesIndex : PageFile D g → PageFile D g → List ℕ → StoreError → Type 0
  MissesIndex old new name e =
      IsFaithful new → (db : Trees) (known : List ℕ) → IsStoreOf old db known
      → (at : ℕ) (index : Index) → slice_get schema_two.indexes at ≡ Some index → index.name ≡ name → IsFailureOf (FailsToRead old new) e

  -- in a store the pages were not read for a cause
  abbrev pub FailsInStore : PageFile D g → PageFile D g → StoreError → Type 0
  FailsInStore old new e = IsFaithful new → (db : Trees) (known : List ℕ) → IsStoreOf old db known → IsFailureOf (FailsToRead old new) e

  -- this is the root of the index of this name in a store
  abbrev pub FindsIndex : PageFile D g → PageFile D g → List ℕ → ℕ → Type 0
  FindsIndex old new name root =
      IsFaithful new → (db : Trees) (known : List ℕ) → IsStoreOf old db known
      → (at : ℕ) (index : Index) → slice_get schema_two.indexes at ≡ Some index → index.name ≡ name → root ≡ slice_index known index.tree
