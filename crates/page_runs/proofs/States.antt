-- What calls that read leave of a store.
use Rattle.std.proofs.Common.{◌≡◌, ◌⊎◌, ℕ, Bool, true, false, IsTrue, ◌&&◌, List, Result, Ok, Err, IfErr, refl, sym, ap₂, subst, ◌∙◌, inl, inr}
use Rattle.std.proofs.lemmas.Bool.{and_parts, cases_Bool}
use Rattle.std.specs.Result.{IsErr, is_ok}
use Rattle.sqlite_disk.specs.Disk.{MoreFaults}
use Rattle.sqlite_pages.specs.PageMap.{PageMap}
use Rattle.sqlite_pool.specs.File.{in_use}
use Rattle.sqlite_pool.specs.Pool as pools
use Rattle.sqlite_wal.specs.State.{StaysOrFails}
use Rattle.sqlite_wal.proofs.StateLemmas.{open_from}
use Rattle.page_files.specs.declared.files.PageFile.{PageFile}
use Rattle.sqlite_disk.specs.declared.Disk.{Ghosts}
use Rattle.sqlite_pool.specs.Stored.{Keeps, RecoversAs}
use Rattle.sqlite_store.specs.declared.catalog.Wanted.{Wanted}
use Rattle.sqlite_trees.specs.Tree.{Trees}
use Rattle.plain_tables.specs.Tables.{Tables}
use Rattle.run_stores.specs.Calls.{Asked}
use Rattle.page_files.specs.Files as files
use Rattle.page_files.specs.Files.{IsUsable, OnlyReads, page_size, pages_of}
use Rattle.page_files.specs.Held.{Rests}
use Rattle.page_files.proofs.Reading.{rests_after}
use Rattle.run_lists.specs.Listed.{AreListed}
use Rattle.page_places.specs.Roots.{AreRoots}
use Rattle.page_runs.specs.Kept.{AreKept}
use Rattle.page_runs.specs.States.{IsFaithful, IsSettled, Left, Represents, ShowsTables, kept, may_leave, state_of}
use Rattle.page_runs.specs.declared.store.PageRuns.{PageRuns}
use Rattle.page_files.proofs.Reading.{OnlyReads-refl}
use Rattle.page_lists.proofs.Shows.{same_stands}

-- an error is no answer
pub none_answered : {T E P : Type 0} (r : Result T E) → IsErr r → IsTrue (is_ok r) → P
none_answered (Ok x) failed done = absurd (let none : false ≡ true = failed in cc)
none_answered (Err e) failed done = absurd (let none : false ≡ true = done in cc)

pub none_told : {T E P : Type 0} (r : Result T E) (b : Bool) → IsErr r → IsTrue (is_ok r && b) → P
none_told r b failed done = none_answered r failed (and_parts (is_ok r) b done).0

-- an error comes only where something is not held
pub serves_held : {T E : Type 0} {is : Bool} (r : Result T E) → IfErr r (λ _. is ≡ false) → is ≡ true → IsTrue (is_ok r)
serves_held (Ok x) none held = refl
serves_held (Err e) none held = absurd (let both : true ≡ false = sym held ∙ none in cc)

module _ {D : Type 0} {g : Ghosts D} where
  -- it can still be used, or failed for good
  pub still_or_failed : (old new : PageFile D g) → StaysOrFails (pools.state old.pool) (pools.state new.pool) → IsUsable old → IsUsable new ⊎ MoreFaults (pools.state old.pool).faults (pools.state new.pool).faults
  still_or_failed old new stays was = elim (cases_Bool (pools.state new.pool).is_ready) [ inl still ↦ inl still | inr shut ↦ inr (stays.stops was shut) ]

  -- what is kept stays
  pub kept_same : (old new : PageRuns D g) → new.kept_cells ≡ old.kept_cells → (t : Tables) → ShowsTables t old → AreKept t new.kept_cells
  kept_same old new same t is = subst (AreKept t) (sym same) is.kept_cells

  -- stores that show the same pages, with the same lists and roots, are read as the same rows, if the cells that they keep are of these
  pub shown_same : (old new : PageRuns D g) → page_size new.file ≡ page_size old.file → pages_of new.file ≡ pages_of old.file → new.lists ≡ old.lists → new.roots ≡ old.roots
      → (t : Tables) → AreKept t new.kept_cells → ShowsTables t old → ShowsTables t new
  shown_same old new size pages lists roots t kept is = record {
    wanted = is.wanted;
    known = is.known;
    db = is.db;
    stands = same_stands old.file new.file size pages is.stands;
    says = is.says;
    roots = subst (AreRoots is.known) (sym roots) is.roots;
    listed = subst (AreListed t) (sym lists) is.listed;
    kept_cells = kept;
  }

  -- a file that shows the same pages, commits nothing, and rests on what it rested on, if it can be used
  pub record StaysSame (old new : PageFile D g) : Type 0 where
    pub keeps : Keeps (pools.state old.pool) (pools.state new.pool)
    pub pages : files.IsFaithful new → IsUsable new → pages_of new ≡ pages_of old
    pub rests : files.IsFaithful new → IsUsable new → (wanted : List Wanted) (known : List ℕ) (db : Trees) → Rests wanted known db old → Rests wanted known db new

  pub stays_read : (old new : PageFile D g) → OnlyReads old new → StaysSame old new
  stays_read old new reads = record {
    keeps = reads.keeps;
    pages = λ faithful usable. reads.pages;
    rests = λ faithful usable wanted known db was. rests_after old new reads faithful usable was;
  }

  module _ (old new : PageRuns D g) (file : StaysSame old.file new.file) (lists : new.lists ≡ old.lists) (roots : new.roots ≡ old.roots)
      (kept_now : IsFaithful new → (t : Tables) → ShowsTables t old → AreKept t new.kept_cells) where
    shown_after : IsFaithful new → IsUsable new.file → (t : Tables) → ShowsTables t old → ShowsTables t new
    shown_after faithful usable t is = shown_same old new file.keeps.stays.size (file.pages faithful usable) lists roots t (kept_now faithful t is) is

    kept_after : IsFaithful new → IsUsable new.file → kept new ≡ kept old
    kept_after faithful usable =
        ap₂ (λ (a b : PageMap). (a, b)) (file.pages faithful usable)
        (ap₂ (λ n p. in_use n p) file.keeps.stays.size (file.keeps.committed (open_from (pools.state new.file.pool) usable faithful)))

    settled_after : IsFaithful new → IsUsable new.file → IsSettled (kept old) → IsSettled (kept new)
    settled_after faithful usable was = subst IsSettled (sym (kept_after faithful usable)) was

    represents_after : (t : Tables) → IsFaithful new → IsUsable new.file → Represents t old → Represents t new
    represents_after t faithful usable was = record {
      reads = record { usable = usable; settled = settled_after faithful usable was.reads.settled; shows = shown_after faithful usable t was.reads.shows };
      wanted = was.wanted;
      known = was.known;
      db = was.db;
      rests = file.rests faithful usable was.wanted was.known was.db was.rests;
      roots = subst (AreRoots was.known) (sym roots) was.roots;
      holds = was.holds;
      ordered = was.ordered;
    }

    leaves_after : (left : Left) → may_leave new left → may_leave old left
    leaves_after left (sized, (image, may, same)) =
        let (before, might, first) = file.keeps.crash image may in
        let next = subst (λ n. RecoversAs n image left.1) file.keeps.stays.size same in
        (sized ∙ file.keeps.stays.size, (before, might, λ pages is. next pages (first pages is)))

    -- a call that leaves its file so, and keeps cells of these rows, was only asked
    pub asked_keeping : (answered : Bool) → (IsTrue answered → IsUsable new.file) → (IsFaithful new → Asked state_of answered old new)
    asked_keeping answered done faithful = record {
      stays = record {
        was_faithful = file.keeps.stays.clean faithful;
        counts = file.keeps.stays.faults;
        closes = λ was. still_or_failed old.file new.file file.keeps.stays was;
        was_usable = file.keeps.stays.was_ready;
        is_usable = done;
      };
      kept = record {
        represents = λ t was usable. represents_after t faithful usable was;
        reads = λ t is usable. record { usable = usable; settled = settled_after faithful usable is.settled; shows = shown_after faithful usable t is.shows };
        same = λ settled usable. kept_after faithful usable;
      };
      crash = λ left may. inl (leaves_after left may);
    }

  -- so was one that keeps those that were kept
  pub asked_same : (old new : PageRuns D g) → StaysSame old.file new.file → new.lists ≡ old.lists → new.roots ≡ old.roots → new.kept_cells ≡ old.kept_cells
      → (answered : Bool) → (IsTrue answered → IsUsable new.file) → (IsFaithful new → Asked state_of answered old new)
  asked_same old new file lists roots kept = asked_keeping old new file lists roots (λ faithful. kept_same old new kept)

  -- one that reads its file
  pub asked : (old new : PageRuns D g) → OnlyReads old.file new.file → new.lists ≡ old.lists → new.roots ≡ old.roots → new.kept_cells ≡ old.kept_cells
      → (answered : Bool) → (IsTrue answered → IsUsable new.file) → (IsFaithful new → Asked state_of answered old new)
  asked old new reads = asked_same old new (stays_read old.file new.file reads)

  -- one that reads nothing changes nothing
  pub asked_nothing : (answered : Bool) (store : PageRuns D g) → (IsTrue answered → IsUsable store.file) → (IsFaithful store → Asked state_of answered store store)
  asked_nothing answered store done = asked store store (OnlyReads-refl store.file) refl refl refl answered done

  -- and may be answered where the store can be used
  pub asked_usable : (store : PageRuns D g) → IsUsable store.file → (answered : Bool) → (IsFaithful store → Asked state_of answered store store)
  asked_usable store usable answered = asked_nothing answered store (λ _. usable)
