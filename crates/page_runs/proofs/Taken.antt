-- What a store shows in its large tables, and what it is read as and represents whose roots were found and whose small tables were read.
use Rattle.std.proofs.Common.{ℕ, List, refl}
use Rattle.sqlite_disk.specs.declared.Disk.{Ghosts}
use Rattle.sqlite_store.specs.declared.catalog.Wanted.{Wanted}
use Rattle.sqlite_value.specs.Order.{Row}
use Rattle.sqlite_trees.specs.Tree.{Trees}
use Rattle.sql_tables.proofs.Contents.{content_there}
use Rattle.plain_tables.specs.Tables.{Tables, StoredCell, StoredCall, StoredStack}
use Rattle.prof_store.proofs.Readings.{calls_said, cells_said, names_said, stacks_said}
use Rattle.prof_store.proofs.Told.{held_said, said}
use Rattle.prof_store.specs.Schema.{schema_two, name_at, thread_cell_at, arc_at, stack_at}
use Rattle.prof_store.specs.Names.{SayNames}
use Rattle.prof_store.specs.Tables.{Holds, contents_of, cell_columns, arc_columns, stack_columns}
use Rattle.run_lists.specs.Listed.{AreListed}
use Rattle.page_files.specs.Files.{IsUsable}
use Rattle.page_files.specs.Held.{Rests}
use Rattle.page_files.proofs.Standing.{stands_resting}
use Rattle.run_stores.specs.Order.{AreInOrder}
use Rattle.page_places.specs.Roots.{AreRoots}
use Rattle.page_runs.specs.Kept.{AreKept}
use Rattle.page_lists.specs.Shown.{ShowsLines, ShowsRows}
use Rattle.page_lists.proofs.RunRows.{shown_in_order}
use Rattle.page_lists.proofs.Rooting.{tables_show}
use Rattle.page_runs.specs.States.{ReadsAs, Represents, SaysRows, ShowsTables}
use Rattle.page_runs.specs.declared.store.PageRuns.{PageRuns}

-- rows that tables hold in the order of the runs are said so
pub rows_said : (t : Tables) (db : Trees) → Holds t db → AreInOrder t → SaysRows t db
rows_said t db holds order =
    let all = holds.contain.contents_are in
    let cells = content_there schema_two.tables (contents_of t) db 10 thread_cell_at refl all in
    let calls = content_there schema_two.tables (contents_of t) db 6 arc_at refl all in
    let stacks = content_there schema_two.tables (contents_of t) db 7 stack_at refl all in
    record {
      says = held_said t db holds;
      in_order = record {
        cells = shown_in_order cell_columns (λ (c : StoredCell). c.run) (λ c. refl) (db thread_cell_at.tree) t.cells cells.rows_are order.cells;
        calls = shown_in_order arc_columns (λ (a : StoredCall). a.run) (λ a. refl) (db arc_at.tree) t.calls calls.rows_are order.calls;
        stacks = shown_in_order stack_columns (λ (s : StoredStack). s.run) (λ s. refl) (db stack_at.tree) t.stacks stacks.rows_are order.stacks;
      };
    }

module _ {D : Type 0} {g : Ghosts D} where
  -- the large tables stand under the roots of a store, and their rows say these
  pub record ShowsLarge (t : Tables) (store : PageRuns D g) : Type 0 where
    pub name_rows : List Row
    pub names : ShowsRows store.file store.roots.names name_rows
    pub names_are : SayNames name_rows t.names
    pub cells : ShowsLines store.file store.roots.cells thread_cell_at cell_columns t.cells
    pub calls : ShowsLines store.file store.roots.calls arc_at arc_columns t.calls
    pub stacks : ShowsLines store.file store.roots.stacks stack_at stack_columns t.stacks

  pub large_shown : (t : Tables) (store : PageRuns D g) → ShowsTables t store → ShowsLarge t store
  large_shown t store is =
      let db = is.db in
      let was = said t db is.says.says in
      let roots = tables_show store.file db is.known is.stands was.sound store.roots is.roots in
      record {
        name_rows = db name_at.tree;
        names = roots.names;
        names_are = names_said t db was;
        cells = record { rows = db thread_cell_at.tree; shows = roots.cells; far = was.far; is_far = was.is_far; said = cells_said t db was; in_order = is.says.in_order.cells };
        calls = record { rows = db arc_at.tree; shows = roots.calls; far = was.far; is_far = was.is_far; said = calls_said t db was; in_order = is.says.in_order.calls };
        stacks = record { rows = db stack_at.tree; shows = roots.stacks; far = was.far; is_far = was.is_far; said = stacks_said t db was; in_order = is.says.in_order.stacks };
      }

  -- whose roots were found and small tables read
  pub reads_as : (t : Tables) (store : PageRuns D g) (db : Trees) (known : List ℕ) {wanted : List Wanted} → Rests wanted known db store.file → SaysRows t db
      → AreRoots known store.roots → AreListed t store.lists → AreKept t store.kept_cells → IsUsable store.file → ReadsAs t store
  reads_as t store db known {wanted} rests says roots listed kept usable = record {
    usable = usable;
    settled = rests.clean.fresh;
    shows = record { wanted = wanted; known = known; db = db; stands = stands_resting store.file rests; says = says; roots = roots; listed = listed; kept_cells = kept };
  }

  pub represents_as : (t : Tables) (store : PageRuns D g) (db : Trees) (known : List ℕ) {wanted : List Wanted} → Rests wanted known db store.file → Holds t db → AreInOrder t
      → AreRoots known store.roots → AreListed t store.lists → AreKept t store.kept_cells → IsUsable store.file → Represents t store
  represents_as t store db known {wanted} rests holds order roots listed kept usable = record {
    reads = reads_as t store db known rests (rows_said t db holds order) roots listed kept usable;
    wanted = wanted;
    known = known;
    db = db;
    rests = rests;
    roots = roots;
    holds = holds;
    ordered = order;
  }
