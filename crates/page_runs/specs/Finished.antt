-- How a change of a store ends that was written into the pages of its file, or was not.
use Rattle.std.specs.Prelude.{◌≡◌, ℕ, List, IsTrue, Result, OnOk, OnErr}
use Rattle.std.specs.Result.{is_ok}
use Rattle.sqlite_disk.specs.declared.Disk.{Ghosts}
use Rattle.sqlite_pool.specs.Pool as pools
use Rattle.sqlite_pool.specs.Stored.{Keeps}
use Rattle.sqlite_wal.specs.State.{StaysOrFails}
use Rattle.sqlite_store.specs.declared.catalog.Wanted.{Wanted}
use Rattle.sqlite_trees.specs.Tree.{Trees}
use Rattle.page_files.specs.Files.{IsFaithful, IsUsable}
use Rattle.page_files.specs.Held.{Rests, StandsOn, Writes}
use Rattle.page_files.specs.Writes.{CommitsAtMost, Forgets}
use Rattle.plain_tables.specs.Tables.{Tables}
use Rattle.plain_tables.specs.declared.errors.StoreError.{StoreError}
use Rattle.run_lists.specs.declared.listed.RunLists.{RunLists}
use Rattle.run_stores.specs.Order.{AreInOrder}
use Rattle.prof_store.specs.Tables.{Holds}
use Rattle.page_places.specs.Roots.{AreRoots}
use Rattle.page_runs.specs.Kept.{IsForgotten}
use Rattle.page_runs.specs.States.{Represents}
use Rattle.page_runs.specs.declared.store.PageRuns.{PageRuns}

module _ {D : Type 0} {g : Ghosts D} where
  -- all that was written is forgotten, and the store is as it was before the writing
  pub record IsUndone (old new : PageRuns D g) : Type 0 where
    pub lists : new.lists ≡ old.lists
    pub roots : new.roots ≡ old.roots
    pub kept_cells : new.kept_cells ≡ old.kept_cells
    pub forgets : Forgets old.file new.file
    pub rests : (wanted : List Wanted) (known : List ℕ) (was : Trees) → StandsOn wanted known was old.file → Rests wanted known was new.file

  -- what was written is committed, these lists are held, and the cells that were kept are forgotten; or it is undone
  pub record Commits (lists : RunLists) (result : Result (Unit {0}) StoreError) (old new : PageRuns D g) : Type 0 where
    pub stays : StaysOrFails (pools.state old.file.pool) (pools.state new.file.pool)
    pub usable : OnOk result (IsUsable new.file)
    pub made : OnOk result ((new.lists ≡ lists) × (new.roots ≡ old.roots) × IsForgotten new.kept_cells)
    pub rests : IsFaithful new.file → (wanted : List Wanted) (known : List ℕ) (was next : Trees) → Writes wanted known was next old.file → OnOk result (Rests wanted known next new.file)
    pub undone : IsFaithful new.file → OnErr result (IsUsable new.file → IsUndone old new)
    pub crash : CommitsAtMost old.file new.file

  -- what was written is committed, or undone; what was not written whole is not committed
  pub record Finishes (written result : Result (Unit {0}) StoreError) (old new : PageRuns D g) : Type 0 where
    pub stays : StaysOrFails (pools.state old.file.pool) (pools.state new.file.pool)
    pub usable : OnOk result (IsUsable new.file)
    pub wrote : IsTrue (is_ok result) → IsTrue (is_ok written)
    pub made : IsFaithful new.file → (wanted : List Wanted) (known : List ℕ) (was next : Trees) (t : Tables)
        → Writes wanted known was next old.file → AreRoots known old.roots → Holds t next → AreInOrder t → OnOk result (Represents t new)
    pub undone : IsFaithful new.file → OnErr result (IsUsable new.file → IsUndone old new)
    pub crash : CommitsAtMost old.file new.file
    pub unwritten : OnErr written (Keeps (pools.state old.file.pool) (pools.state new.file.pool))
