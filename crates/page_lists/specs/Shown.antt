-- The rows that an opened file shows.
use Rattle.std.specs.Prelude.{◌≡◌, ◌≤◌, ◌^◌, ℕ, List}
use Rattle.std.specs.List.{AllZip}
use Rattle.sqlite_disk.specs.declared.Disk.{Ghosts}
use Rattle.sqlite_store.specs.declared.catalog.Wanted.{Wanted}
use Rattle.sqlite_trees.specs.Tree.{Trees}
use Rattle.sqlite_value.specs.Order.{Row}
use Rattle.page_files.specs.declared.files.PageFile.{PageFile}
use Rattle.page_files.specs.Trees.{ShowsTable, trees_of}
use Rattle.prof_store.specs.Schema.{meta_at, run_at, run_event_at, derived_at, coef_at, name_at, arc_at, stack_at, grp_at, member_at, thread_cell_at}
use Rattle.sqlite_schema.specs.declared.schema.Table.{Table}
use Rattle.prof_store.specs.Readings.{SaysBehind}
use Rattle.page_lists.specs.Walks.{InOrder}
use Rattle.page_places.specs.declared.roots.StoreRoots.{StoreRoots}

module _ {D : Type 0} {g : Ghosts D} where
  -- it is a database, in which the table under this root has these rows
  pub record ShowsRows (file : PageFile D g) (root : ℕ) (rows : List Row) : Type 0 where
    pub wanted : List Wanted
    pub t : ℕ
    pub shows : ShowsTable wanted t root file
    pub rows_are : trees_of wanted file t ≡ rows

  -- its tables stand under these roots
  pub record StandUnder (file : PageFile D g) (db : Trees) (roots : StoreRoots) : Type 0 where
    pub meta : ShowsRows file roots.meta (db meta_at.tree)
    pub runs : ShowsRows file roots.runs (db run_at.tree)
    pub events : ShowsRows file roots.events (db run_event_at.tree)
    pub derived : ShowsRows file roots.derived (db derived_at.tree)
    pub coefs : ShowsRows file roots.coefs (db coef_at.tree)
    pub names : ShowsRows file roots.names (db name_at.tree)
    pub cells : ShowsRows file roots.cells (db thread_cell_at.tree)
    pub calls : ShowsRows file roots.calls (db arc_at.tree)
    pub stacks : ShowsRows file roots.stacks (db stack_at.tree)
    pub groups : ShowsRows file roots.groups (db grp_at.tree)
    pub members : ShowsRows file roots.members (db member_at.tree)

  -- this table of lines of runs stands under the root, its rows in the order of the runs; whoever wrote them, they are read as these lines, a negative number as one that no command has
  pub record ShowsLines {X : Type 0} (file : PageFile D g) (root : ℕ) (table : Table) (columns : X → Row) (lines : List X) : Type 0 where
    pub rows : List Row
    pub shows : ShowsRows file root rows
    pub far : ℕ → ℕ
    pub is_far : (n : ℕ) → 2 ^ 64 ≤ far n
    pub said : AllZip (SaysBehind far table columns) rows lines
    pub in_order : InOrder rows
