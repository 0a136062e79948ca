-- What a store in the pages of its file represents.
use Rattle.std.specs.Prelude.{◌≡◌, ℕ, List}
use Rattle.sqlite_disk.specs.declared.Disk.{Ghosts}
use Rattle.sqlite_pages.specs.PageMap.{PageMap}
use Rattle.sqlite_pool.specs.File.{in_use}
use Rattle.sqlite_pool.specs.Pool as pools
use Rattle.std.proofs.Common.{subst, sym}
use Rattle.sqlite_pool.specs.Stored.{RecoversAs}
use Rattle.sqlite_pool.specs.StoredLaws.{carried}
use Rattle.sqlite_wal.specs.Recovery.{Image}
use Rattle.sqlite_trees.specs.Tree.{Trees}
use Rattle.sqlite.specs.Opening.{HoldsAt}
use Rattle.sqlite_store.specs.declared.catalog.Wanted.{Wanted}
use Rattle.page_files.specs.Files as files
use Rattle.page_files.specs.Files.{page_size, pages_of}
use Rattle.page_files.specs.Held.{Rests}
use Rattle.page_files.specs.Trees.{StandsIn}
use Rattle.page_lists.specs.Walks.{InOrder}
use Rattle.page_lists.proofs.NamesTold.{apart_told}
use Rattle.plain_tables.specs.Tables.{Tables}
use Rattle.run_lists.specs.Listed.{AreListed}
use Rattle.run_stores.specs.Order.{AreInOrder}
use Rattle.prof_store.specs.Readings.{RowsSay}
use Rattle.prof_store.specs.Schema.{schema_two, arc_at, stack_at, thread_cell_at}
use Rattle.prof_store.specs.Tables.{Holds}
use Rattle.prof_store.proofs.Sound.{sound_of}
use Rattle.run_stores.specs.declared.states.StoreState.{Ghosts as StoreGhosts}
use Rattle.page_places.specs.Roots.{AreRoots}
use Rattle.page_runs.specs.Kept.{AreKept}
use Rattle.page_runs.specs.declared.store.PageRuns.{PageRuns}

-- the files, and the size of their pages
abbrev pub Left : Type 0
Left = ℕ × Image

-- they hold a database whose tables hold these rows, those of runs in the order of the runs
pub record HoldsTables (t : Tables) (left : Left) : Type 0 where
  pub db : Trees
  pub at : HoldsAt left.0 left.1 db
  pub holds : Holds t db
  pub ordered : AreInOrder t

-- files that stand for others hold the same
pub held_by : (t : Tables) (size : ℕ) (image left : Image) → RecoversAs size image left → HoldsTables t (size, image) → HoldsTables t (size, left)
held_by t size image left same is = record {
  db = is.db;
  at = record { pages = is.at.pages; wanted = is.at.wanted; schema = is.at.schema; found = carried size image left same is.at.pages is.at.found; ours = is.at.ours; reads = is.at.reads; sound = is.at.sound };
  holds = is.holds;
  ordered = is.ordered;
}

-- the rows of runs stand in the order of the runs
pub record AreRowsInOrder (db : Trees) : Type 0 where
  pub cells : InOrder (db thread_cell_at.tree)
  pub calls : InOrder (db arc_at.tree)
  pub stacks : InOrder (db stack_at.tree)

-- whoever wrote the rows of a database, they say these, those of runs in the order of the runs
pub record SaysRows (t : Tables) (db : Trees) : Type 0 where
  pub says : RowsSay t db
  pub in_order : AreRowsInOrder db

-- files hold such a database
pub record SaysTables (t : Tables) (left : Left) : Type 0 where
  pub db : Trees
  pub at : HoldsAt left.0 left.1 db
  pub says : SaysRows t db

-- the pages as they are read, and as they are committed
abbrev pub Kept : Type 0
Kept = PageMap × PageMap

-- nothing is written that is not committed
abbrev pub IsSettled : Kept → Type 0
IsSettled kept = kept.0 ≡ kept.1

module _ {D : Type 0} {g : Ghosts D} where
  -- its file shows a store whose rows say these, its tables and indexes under these roots; what is kept is of them
  pub record ShowsTables (t : Tables) (store : PageRuns D g) : Type 0 where
    pub wanted : List Wanted
    pub known : List ℕ
    pub db : Trees
    pub stands : StandsIn wanted known db store.file
    pub says : SaysRows t db
    pub roots : AreRoots known store.roots
    pub listed : AreListed t store.lists
    pub kept_cells : AreKept t store.kept_cells

  abbrev pub IsFaithful : PageRuns D g → Type 0
  IsFaithful store = files.IsFaithful store.file

  abbrev pub faults : PageRuns D g → ℕ
  faults store = files.faults store.file

  abbrev pub kept : PageRuns D g → Kept
  kept store = (pages_of store.file, in_use (page_size store.file) (pools.state store.file.pool).committed)

  -- files that stand for what a crash may leave
  abbrev pub may_leave : PageRuns D g → Left → Type 0
  may_leave store left = (left.0 ≡ page_size store.file) × ((image : Image) × files.may_leave store.file image × RecoversAs (page_size store.file) image left.1)

  -- it can be used, has written nothing, and is read as these rows, whoever wrote them
  pub record ReadsAs (t : Tables) (store : PageRuns D g) : Type 0 where
    pub usable : files.IsUsable store.file
    pub settled : IsSettled (kept store)
    pub shows : ShowsTables t store

  -- it is read as these rows, and its files rest on a database of them, whatever happens
  pub record Represents (t : Tables) (store : PageRuns D g) : Type 0 where
    pub reads : ReadsAs t store
    pub wanted : List Wanted
    pub known : List ℕ
    pub db : Trees
    pub rests : Rests wanted known db store.file
    pub roots : AreRoots known store.roots
    pub holds : Holds t db
    pub ordered : AreInOrder t

  -- it represents the rows that an image of its files holds
  abbrev pub RepresentsImage : Image → PageRuns D g → Type 0
  RepresentsImage image store = (t : Tables) → HoldsTables t (page_size store.file, image) → Represents t store

  -- it is read as the rows that an image of its files says
  abbrev pub ReadsImage : Image → PageRuns D g → Type 0
  ReadsImage image store = (t : Tables) → SaysTables t (page_size store.file, image) → ReadsAs t store

  -- what a crash may leave holds the rows that it represents
  pub survives : (t : Tables) (store : PageRuns D g) (left : Left) → Represents t store → may_leave store left → HoldsTables t left
  survives t store left was (sized, (image, may, same)) =
      let found = was.rests.behind.left image may in
      let at : HoldsAt (page_size store.file) image was.db = record {
        pages = found.0;
        wanted = was.wanted;
        schema = schema_two;
        found = found.1;
        ours = found.2.ours;
        reads = found.2.reads;
        sound = was.holds.contain.sound;
      } in
      subst (λ n. HoldsTables t (n, left.1)) (sym sized) (held_by t (page_size store.file) image left.1 same (record { db = was.db; at = at; holds = was.holds; ordered = was.ordered }))

  abbrev pub state_of : StoreGhosts (PageRuns D g)
  state_of = record {
    Kept = Kept;
    kept = kept;
    is_settled = IsSettled;
    Left = Left;
    holds = HoldsTables;
    may_leave = may_leave;
    represents = Represents;
    reads_as = ReadsAs;
    is_faithful = IsFaithful;
    is_usable = λ store. (pools.state store.file.pool).is_ready;
    faults = faults;
    is_full = λ store. pools.IsFull store.file.pool;
    usable = λ t s represents. represents.reads.usable;
    said = λ t s represents. represents.reads;
    readable = λ t s reads. reads.usable;
    apart = λ t s reads. apart_told t reads.shows.db reads.shows.says.says;
    sound = λ t s represents. sound_of t represents.db represents.holds;
    left_sound = λ t left holds. sound_of t holds.db holds.holds;
  }
