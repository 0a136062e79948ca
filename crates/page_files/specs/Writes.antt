-- What the calls of a transaction do to the trees, and why they may fail.
use Rattle.std.specs.Prelude.{◌≡◌, ◌⊎◌, ℕ, ◌^◌, ◌<◌, List, slice_index, All, Result, MatchResult}
use Rattle.sqlite_disk.specs.declared.Disk.{Ghosts}
use Rattle.sqlite_pages.specs.PageMap.{PageMap}
use Rattle.sqlite_pages.specs.declared.error.Error.{Error}
use Rattle.sqlite_pool.specs.Pool as pools
use Rattle.sqlite_pool.specs.Stored.{Keeps, Recovers, RecoversAs}
use Rattle.sqlite_store.specs.declared.catalog.Wanted.{Wanted}
use Rattle.sqlite_store.specs.Catalog.{shape_at, reals_at}
use Rattle.sqlite_store.specs.Db.{shown}
use Rattle.sqlite_store.specs.Limit.{Fails, HasDeepTree}
use Rattle.sqlite_trees.specs.declared.store.Shape.{Shape}
use Rattle.sqlite_trees.specs.Tree.{Trees, with_tree}
use Rattle.sqlite_value.specs.Order.{Row}
use Rattle.sqlite_wal.specs.Recovery.{Image}
use Rattle.page_files.specs.Places.{Place, place_all}
use Rattle.page_files.specs.declared.files.PageFile.{PageFile}
use Rattle.page_files.specs.Files.{faults, may_leave, page_size, pages_of, IsFaithful}
use Rattle.page_files.specs.Held.{Has, Writes}

-- tree t has this shape, and stands under this root
pub record IsTreeAt (wanted : List Wanted) (roots : List ℕ) (t : ℕ) (shape : Shape) (root : ℕ) : Type 0 where
  pub low : t < 2 ^ 32
  pub shape_is : shape_at wanted t ≡ shape
  pub root_is : slice_index roots t ≡ root

module _ {D : Type 0} {g : Ghosts D} where
  -- the file or its log cannot grow, or a tree has the 20 levels that SQLite reads
  abbrev pub IsAtLimit : PageFile D g → Type 0
  IsAtLimit it = pools.IsFull it.pool ⊎ (pools.IsTooLong it.pool ⊎ ((root : ℕ) × HasDeepTree (page_size it) (pages_of it) root))

  -- what was written since then has come to a limit
  abbrev pub ComesToLimit : PageFile D g → Type 0
  ComesToLimit old = (it : PageFile D g) × Keeps (pools.state old.pool) (pools.state it.pool) × IsAtLimit it

  module _ (old new : PageFile D g) where
    -- why a transaction that has gone from one to the other fails: the disk failed, memory ran out, or it came to a limit
    abbrev pub FailsToWrite : Error → Type 0
    FailsToWrite = Fails (faults old) (faults new) (ComesToLimit old)

    -- within a transaction, of the tree of this shape under this root: what the fact says of it and of the trees
    abbrev pub AtTree : Shape → ℕ → ((wanted : List Wanted) (roots : List ℕ) (was now : Trees) (t : ℕ) → Type 0) → Type 0
    AtTree shape root Fact =
        IsFaithful new → (wanted : List Wanted) (roots : List ℕ) (was now : Trees) (t : ℕ)
        → Writes wanted roots was now old → IsTreeAt wanted roots t shape root → Fact wanted roots was now t

    -- its rows are edited and nothing else, or there is a cause
    abbrev pub EditsOrFails : {A : Type 0} → (List Row → List Row) → Result A Error → List Wanted → List ℕ → Trees → Trees → ℕ → Type 0
    EditsOrFails edit result wanted roots was now t = MatchResult result (λ _. Writes wanted roots was (with_tree now t (edit (now t))) new) (FailsToWrite)

    -- the tree of this shape under this root is edited
    abbrev pub EditsTree : {A : Type 0} → Shape → ℕ → (List Row → List Row) → Result A Error → Type 0
    EditsTree shape root edit result = AtTree shape root (EditsOrFails edit result)

    -- the same where this row is shown as it is given: no integer stands in a REAL column
    abbrev pub PlacesRow : {A : Type 0} → Shape → ℕ → Row → (Row → List Row → List Row) → Result A Error → Type 0
    PlacesRow shape root row place result =
        AtTree shape root (λ wanted roots was now t. shown shape (reals_at wanted t) row ≡ row → EditsOrFails (place row) result wanted roots was now t)

    -- the same for these rows, one after another
    abbrev pub PlacesRows : {A : Type 0} → Shape → ℕ → Place → List Row → Result A Error → Type 0
    PlacesRows shape root place news result =
        AtTree shape root (λ wanted roots was now t. All (λ row. shown shape (reals_at wanted t) row ≡ row) news
        → EditsOrFails (place_all place news) result wanted roots was now t)

    -- each outcome of a crash is one from before, or has the trees that were seen
    abbrev pub CommitsAtMost : Type 0
    CommitsAtMost =
        (image : Image) → may_leave new image
        → ((before : Image) × may_leave old before × RecoversAs (page_size old) before image)
        ⊎ ((pages : PageMap) × Recovers (page_size old) image pages
        × ((wanted : List Wanted) (roots : List ℕ) (was now : Trees) → Writes wanted roots was now old → Has (page_size old) wanted now pages))

    -- it is open on what was committed before, and nothing is written
    pub record Forgets : Type 0 where
      pub clean : pools.IsClean new.pool
      pub committed : (pools.state new.pool).committed ≡ (pools.state old.pool).committed
