-- Files whose pages end in no sums, and what a store in pages holds.
use Rattle.std.proofs.Common.{◌≡◌, true, ℕ, ◌%◌, List, length, take, subst, ◌∙◌, arith, ne_eqb, take_all}
use Rattle.std.proofs.Math.Logic.{∥∥₁_elim}
use denote.Struct.Props.{props}
use Rattle.sqlite_pages.specs.PageMap.{PageMap}
use Rattle.sqlite_disk.specs.declared.Disk.{Ghosts}
use Rattle.sqlite_pool.proofs.ResealLemmas.{adopts_of}
use Rattle.sqlite_pool.proofs.StateLemmas.{size_is_allowed}
use Rattle.sqlite_pool.specs.Pool as pools
use Rattle.sqlite_pool.specs.Stored.{reserved, sealed, stored_size, Adopts, Recovers}
use Rattle.sqlite_pool.specs.declared.pool.Pool.{Pool}
use Rattle.sqlite_store.specs.Listing.{file_trees, IsOurs}
use Rattle.sqlite_trees.specs.Tree.{Trees}
use Rattle.sqlite_wal.specs.PageSize.{IsPageSize}
use Rattle.sqlite_wal.specs.Recovery.{Image}
use Rattle.sqlite.specs.Files.{HoldsDatabase}
use Rattle.sqlite.specs.Opening.{HoldsAt}
use Rattle.plain_tables.specs.Tables.{Tables}
use Rattle.run_stores.specs.Order.{AreInOrder}
use Rattle.prof_store.specs.Tables.{Holds}
use Rattle.page_lists.specs.Sizes.{IsSizeOf}
use Rattle.page_runs.specs.States.{HoldsTables}
use Rattle.store_paths.specs.Shown.{HoldsRows}

no_sum : (n : ℕ) (bytes : List ℕ) → n % 16 ≡ 0 → length bytes ≡ n → bytes ≡ sealed (take n bytes)
unfolding sealed
no_sum n bytes even len = rw (take_all n bytes (omega (arith, len)), ne_eqb (length bytes % 16) 8 (omega (arith, even, len)))

-- they have no sum to miss
pub recovers_plain : (n : ℕ) (image : Image) (pages : PageMap) → n % 16 ≡ 0 → Adopts n image pages → Recovers n image pages
recovers_plain n image pages even is =
    let none : reserved n ≡ 0 = rw (ne_eqb (n % 16) 8 (omega (arith, even))) in
    record {
      stored = is.stored;
      found = is.found;
      whole = is.whole;
      sealed = λ m bytes there. no_sum n bytes even (is.whole.sized m bytes there ∙ omega (arith, none));
      shows = is.shows;
      present = is.found.present;
    }

-- where a database is held by pages of this size, so are the rows of its tables, in the order in which they stand
pub held_plainly : (t : Tables) (n : ℕ) (image : Image) (db : Trees) → IsSizeOf image n → Holds t db → HoldsDatabase image db → AreInOrder t → HoldsTables t (n, image)
held_plainly t n image db sized holds held ordered =
    let here = held.2 in
    let same : held.0 ≡ n = sized.only held.0 here.pages held.1 here.found here.ours.file.sound in
    let found = subst (λ m. Adopts m image here.pages) same here.found in
    let at : HoldsAt n image db = record {
      pages = here.pages;
      wanted = here.wanted;
      schema = here.schema;
      found = recovers_plain n image here.pages sized.allowed.3 found;
      ours = subst (λ m. IsOurs m true here.wanted here.pages) same here.ours;
      reads = subst (λ m. db ≡ file_trees m here.wanted here.pages) same here.reads;
      sound = here.sound;
    } in
    record { db = db; at = at; holds = holds; ordered = ordered }

-- ---- and back

IsPageSize-prop : (n : ℕ) → IsProp (IsPageSize n)
IsPageSize-prop n = hlevel props

-- the pages of an open pool are as long as pages may be
pub size_allowed : {D : Type 0} {g : Ghosts D} (it : Pool D g) → IsPageSize (stored_size (pools.state it).page_size)
size_allowed it = ∥∥₁_elim (size_is_allowed it) (IsPageSize-prop _) (λ x. x)

-- what such pages hold is a database, with the same rows
pub held_rows : (t : Tables) (n : ℕ) (image : Image) → IsPageSize (stored_size n) → HoldsTables t (n, image) → HoldsRows image t
held_rows t n image allowed is = (
  is.db,
  (
    n,
    allowed,
    record {
      pages = is.at.pages;
      wanted = is.at.wanted;
      schema = is.at.schema;
      found = adopts_of n image is.at.pages is.at.found;
      ours = is.at.ours;
      reads = is.at.reads;
      sound = is.at.sound;
    },
  ),
  is.holds,
)
