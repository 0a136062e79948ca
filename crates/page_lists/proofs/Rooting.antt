-- The tables of a store, under their roots.
use Rattle.std.proofs.Common.{◌≡◌, ℕ, List, slice_get, slice_index, Some, refl}
use Rattle.sqlite_disk.specs.declared.Disk.{Ghosts}
use Rattle.sqlite_catalog.specs.Listing.{IsSound}
use Rattle.sqlite_schema.specs.declared.schema.Table.{Table}
use Rattle.sqlite_store.specs.declared.catalog.Wanted.{Wanted}
use Rattle.sqlite_trees.specs.Tree.{Trees}
use Rattle.page_files.specs.declared.files.PageFile.{PageFile}
use Rattle.page_files.specs.Trees.{StandsIn}
use Rattle.page_files.proofs.Standing.{catalog_shown, table_stands, tree_shown}
use Rattle.prof_store.specs.Schema.{schema_two, meta_at, run_at, run_event_at, derived_at, coef_at, name_at, arc_at, stack_at, grp_at, member_at, thread_cell_at}
use Rattle.page_places.specs.declared.roots.StoreRoots.{StoreRoots}
use Rattle.page_places.specs.Roots.{AreRoots}
use Rattle.page_places.proofs.Placing.{placed_at}
use Rattle.page_lists.specs.Shown.{StandUnder, ShowsRows}

module _ {D : Type 0} {g : Ghosts D} where
  module _ (file : PageFile D g) (db : Trees) (known : List ℕ) {wanted : List Wanted} (stands : StandsIn wanted known db file) (sound : IsSound schema_two db) where
    -- it has each table under its root
    pub table_shows : (at : ℕ) (table : Table) → slice_get schema_two.tables at ≡ Some table → (root : ℕ) → root ≡ slice_index known table.tree → ShowsRows file root (db table.tree)
    table_shows at table there root root_is =
        let placed = placed_at wanted db (catalog_shown file stands) sound at table there in
        record {
          wanted = wanted;
          t = table.tree;
          shows = table_stands file stands table.tree placed.low root placed.named.shape placed.plain root_is;
          rows_are = tree_shown file stands table.tree placed.low;
        }

    -- and all of them
    pub tables_show : (roots : StoreRoots) → AreRoots known roots → StandUnder file db roots
    tables_show roots are = record {
      meta = table_shows 0 meta_at refl roots.meta are.meta;
      runs = table_shows 1 run_at refl roots.runs are.runs;
      events = table_shows 2 run_event_at refl roots.events are.events;
      derived = table_shows 3 derived_at refl roots.derived are.derived;
      coefs = table_shows 4 coef_at refl roots.coefs are.coefs;
      names = table_shows 5 name_at refl roots.names are.names;
      cells = table_shows 10 thread_cell_at refl roots.cells are.cells;
      calls = table_shows 6 arc_at refl roots.calls are.calls;
      stacks = table_shows 7 stack_at refl roots.stacks are.stacks;
      groups = table_shows 8 grp_at refl roots.groups are.groups;
      members = table_shows 9 member_at refl roots.members are.members;
    }
