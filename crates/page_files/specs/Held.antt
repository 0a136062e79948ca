-- Which trees files hold that are opened, between transactions and within one.
use Rattle.std.specs.Prelude.{◌≡◌, ℕ, List, true, IsTrue}
use Rattle.sqlite_disk.specs.declared.Disk.{Ghosts}
use Rattle.sqlite_pages.specs.PageMap.{PageMap}
use Rattle.sqlite_pool.specs.File.{version_in, in_use}
use Rattle.sqlite_pool.specs.Pool as pools
use Rattle.sqlite_pool.specs.Stored.{LeavesOnly}
use Rattle.sqlite_store.specs.declared.catalog.Wanted.{Wanted}
use Rattle.sqlite_store.specs.Db.{roots_of}
use Rattle.sqlite_store.specs.Exact.{IsNumberedDb}
use Rattle.sqlite_store.specs.Listing.{all_trees, file_trees, IsOurs}
use Rattle.sqlite_trees.specs.Objects.{with_version}
use Rattle.sqlite_trees.specs.Tree.{Trees}
use Rattle.page_files.specs.declared.files.PageFile.{PageFile}
use Rattle.page_files.specs.Files.{page_size, pages_of}

-- the pages are a file of this schema that reads as these trees
pub record Has (size : ℕ) (wanted : List Wanted) (db : Trees) (pages : PageMap) : Type 0 where
  pub ours : IsOurs size true wanted pages
  pub reads : db ≡ file_trees size wanted pages

module _ {D : Type 0} {g : Ghosts D} where
  -- these trees are what a crash leaves, and what is committed
  pub record IsBehind (wanted : List Wanted) (was : Trees) (it : PageFile D g) : Type 0 where
    pub has : IsTrue (pools.state it.pool).is_open → Has (page_size it) wanted was (pools.state it.pool).committed
    pub left : LeavesOnly (pools.state it.pool) (Has (page_size it) wanted was)

  -- between transactions the files hold these trees, which stand under these roots
  pub record Rests (wanted : List Wanted) (roots : List ℕ) (db : Trees) (it : PageFile D g) : Type 0 where
    pub clean : pools.IsClean it.pool
    pub behind : IsBehind wanted db it
    pub known : roots ≡ roots_of (page_size it) wanted (in_use (page_size it) (pools.state it.pool).committed)

  -- whatever is written since, those trees are what is committed and what a crash leaves, under these roots
  pub record StandsOn (wanted : List Wanted) (roots : List ℕ) (was : Trees) (it : PageFile D g) : Type 0 where
    pub behind : IsBehind wanted was it
    pub known : IsTrue (pools.state it.pool).is_open → roots ≡ roots_of (page_size it) wanted (in_use (page_size it) (pools.state it.pool).committed)

  -- within one: a crash leaves those trees, and these are seen, under these roots
  pub record Writes (wanted : List Wanted) (roots : List ℕ) (was now : Trees) (it : PageFile D g) : Type 0 where
    pub is_open : IsTrue (pools.state it.pool).is_open
    pub below : StandsOn wanted roots was it
    pub numbered : IsNumberedDb (page_size it) wanted roots (pages_of it)
    pub reads : now ≡ with_version (all_trees (page_size it) wanted (pages_of it)) (version_in (pools.state it.pool).committed)
