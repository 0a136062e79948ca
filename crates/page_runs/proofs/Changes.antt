-- A change that was written into the pages of a store's file, and ended: what the trait's calls say of it.
use Rattle.std.proofs.Common.{◌≡◌, ◌⊎◌, true, false, IsTrue, Result, Ok, Err, OnOk, OnErr, refl, sym, ap, ap₂, subst, ◌∙◌, inl, inr}
use Rattle.std.specs.Result.{is_ok}
use Rattle.sqlite_disk.specs.declared.Disk.{Ghosts}
use Rattle.sqlite_pages.specs.PageMap.{PageMap}
use Rattle.sqlite_pool.specs.File.{in_use}
use Rattle.sqlite_pool.specs.Pool as pools
use Rattle.sqlite_pool.specs.Stored.{Keeps, RecoversAs}
use Rattle.sqlite_wal.specs.Recovery.{Image}
use Rattle.sqlite_wal.specs.State.{StaysOrFails}
use Rattle.sqlite_wal.proofs.StateLemmas.{StaysOrFails-trans, open_from}
use Rattle.sqlite_trees.specs.Tree.{Trees}
use Rattle.page_files.specs.Files.{IsUsable, page_size}
use Rattle.page_files.specs.Held.{Writes}
use Rattle.page_files.proofs.Steps.{stands_on, stands_on_along}
use Rattle.plain_tables.specs.Tables.{Tables}
use Rattle.plain_tables.specs.declared.errors.StoreError.{StoreError}
use Rattle.plain_tables.specs.Sound.{AreSound}
use Rattle.run_stores.specs.Order.{AreInOrder}
use Rattle.run_stores.specs.Calls as calls
use Rattle.run_stores.specs.Calls.{Are, Become, Changed, Given}
use Rattle.prof_store.specs.Schema.{schema_two}
use Rattle.prof_store.specs.Tables.{Holds}
use Rattle.prof_store.proofs.Sound.{sound_of}
use Rattle.page_runs.specs.Finished.{Finishes, IsUndone}
use Rattle.page_places.specs.Roots.{AreRoots}
use Rattle.page_runs.specs.States.{HoldsTables, IsFaithful, IsSettled, Left, ReadsAs, Represents, ShowsTables, held_by, kept, may_leave, state_of}
use Rattle.page_runs.specs.declared.store.PageRuns.{PageRuns}
use Rattle.page_runs.proofs.States.{kept_same, shown_same, still_or_failed}

pub is_done : {T E : Type 0} (r : Result T E) {P : Type 0} → IsTrue (is_ok r) → OnOk r P → P
is_done (Ok x) done p = p
is_done (Err e) done p = absurd (let none : false ≡ true = done in cc)

is_refused : {T E : Type 0} (r : Result T E) {P : Type 0} → is_ok r ≡ false → OnErr r P → P
is_refused (Ok x) failed p = absurd (let none : true ≡ false = failed in cc)
is_refused (Err e) failed p = p

either : {T E : Type 0} (r : Result T E) {P Q R : Type 0} → OnOk r P → OnErr r Q → (P → R) → (Q → R) → R
either (Ok x) p q f h = f p
either (Err e) p q f h = h q

module _ {D : Type 0} {g : Ghosts D} where
  -- within the transaction the tables hold these rows
  pub record IsMade (t : Tables) {before : Tables} {old : PageRuns D g} (was : Represents before old) (mid : PageRuns D g) : Type 0 where
    pub next : Trees
    pub writes : Writes was.wanted was.known was.db next mid.file
    pub holds : Holds t next

  module _ (given : Tables → Type 0) (change : Tables → Tables) (old mid new : PageRuns D g) (k : Keeps (pools.state old.file.pool) (pools.state mid.file.pool))
      (lists : mid.lists ≡ old.lists) (roots : mid.roots ≡ old.roots) (kept_cells : mid.kept_cells ≡ old.kept_cells) (written result : Result (Unit {0}) StoreError) (fin : Finishes written result mid new)
      (made : IsFaithful mid → (t : Tables) → given t → (was : Represents t old) → OnOk written (IsMade (change t) was mid))
      (ordered : (t : Tables) → given t → AreSound t → AreInOrder t → AreInOrder (change t)) (faithful : IsFaithful new) where
    later : StaysOrFails (pools.state mid.file.pool) (pools.state new.file.pool)
    later = fin.stays

    earlier : IsFaithful mid
    earlier = later.clean faithful

    represented : (m t : Tables) → given m → t ≡ m → Represents t old → IsTrue (is_ok result) → Represents (change m) new
    represented m t is same was done =
        let now = subst (λ (u : Tables). Represents u old) same was in
        let it = is_done written (fin.wrote done) (made earlier m is now) in
        is_done result done (fin.made faithful now.wanted now.known now.db it.next (change m) it.writes (subst (AreRoots now.known) (sym roots) now.roots) it.holds (ordered m is (sound_of m now.db now.holds) now.ordered))

    undone : is_ok result ≡ false → IsUsable new.file → IsUndone mid new
    undone failed = is_refused result failed (fin.undone faithful)

    -- undone, it shows the pages that are committed
    shows_same : (failed : is_ok result ≡ false) (usable : IsUsable new.file) → kept new ≡ (in_use (page_size old.file) (pools.state old.file.pool).committed, in_use (page_size old.file) (pools.state old.file.pool).committed)
    shows_same failed usable =
        let u = undone failed usable in
        let was_open = later.was_open (open_from (pools.state new.file.pool) usable faithful) in
        let size = later.size ∙ k.stays.size in
        let same = u.forgets.committed ∙ k.committed was_open in
        let pages = ap₂ in_use size same in
        ap₂ (λ (a b : PageMap). (a, b)) (u.forgets.clean.fresh ∙ pages) pages

    same_kept : is_ok result ≡ false → IsSettled (kept old) → IsUsable new.file → kept new ≡ kept old
    same_kept failed settled usable = shows_same failed usable ∙ ap (λ (p : PageMap). (p, in_use (page_size old.file) (pools.state old.file.pool).committed)) (sym settled)

    shown : is_ok result ≡ false → IsUsable new.file → (t : Tables) → IsSettled (kept old) → ShowsTables t old → ShowsTables t new
    shown failed usable t settled is =
        let u = undone failed usable in
        shown_same old new (later.size ∙ k.stays.size) (ap (λ (p : PageMap × PageMap). p.0) (same_kept failed settled usable)) (u.lists ∙ lists) (u.roots ∙ roots) t
        (kept_same old new (u.kept_cells ∙ kept_cells) t is) is

    read_again : is_ok result ≡ false → (t : Tables) → ReadsAs t old → IsUsable new.file → ReadsAs t new
    read_again failed t is usable = record {
      usable = usable;
      settled = subst IsSettled (sym (same_kept failed is.settled usable)) is.settled;
      shows = shown failed usable t is.settled is.shows;
    }

    represented_again : is_ok result ≡ false → (t : Tables) → Represents t old → IsUsable new.file → Represents t new
    represented_again failed t was usable =
        let u = undone failed usable in
        record {
          reads = read_again failed t was.reads usable;
          wanted = was.wanted;
          known = was.known;
          db = was.db;
          rests = u.rests was.wanted was.known was.db (stands_on_along old.file mid.file k (stands_on old.file was.rests));
          roots = subst (AreRoots was.known) (sym (u.roots ∙ roots)) was.roots;
          holds = was.holds;
          ordered = was.ordered;
        }

    leaves_old : (left : Left) (image : Image) → RecoversAs (page_size new.file) image left.1 → left.0 ≡ page_size new.file
        → (before : Image) → (pools.state mid.file.pool).may_leave before → RecoversAs (page_size mid.file) before image → may_leave old left
    leaves_old left image same sized before might then =
        let (first, may, again) = k.crash before might in
        let here = subst (λ n. RecoversAs n image left.1) later.size same in
        let size = later.size ∙ k.stays.size in
        (sized ∙ size, (first, may, λ pages is. subst (λ n. RecoversAs n image left.1) k.stays.size here pages (subst (λ n. RecoversAs n before image) k.stays.size then pages (again pages is))))

    leaves : (m : Tables) → calls.Rests (state_of {D = D} {g = g}) (Given given m) old → (left : Left) → may_leave new left → may_leave old left ⊎ calls.Holds (state_of {D = D} {g = g}) (Become change m) left
    leaves m was left (sized, (image, may, same)) =
        let now = subst (λ (u : Tables). Represents u old) was.holds.1 was.represents in
        either written (made earlier m was.holds.0 now) fin.unwritten
        (λ it. elim (fin.crash image may) [
          | inl before ↦ inl (leaves_old left image same sized before.0 before.1 before.2)
          | inr (pages, found, has) ↦
              let there = has now.wanted now.known now.db it.next it.writes in
              let at : HoldsTables (change m) (page_size mid.file, image) = record {
                db = it.next;
                at = record { pages = pages; wanted = now.wanted; schema = schema_two; found = found; ours = there.ours; reads = there.reads; sound = it.holds.contain.sound };
                holds = it.holds;
                ordered = ordered m was.holds.0 (sound_of m now.db now.holds) now.ordered;
              } in
              let here = subst (λ n. RecoversAs n image left.1) later.size same in
              inr (record { t = change m; holds = refl; is = subst (λ n. HoldsTables (change m) (n, left.1)) (sym (sized ∙ later.size)) (held_by (change m) (page_size mid.file) image left.1 here at) })
        ])
        (λ kept. let (before, might, then) = kept.crash image may in inl (leaves_old left image same sized before might then))

    -- a change as the trait says it
    pub changed : Changed (state_of {D = D} {g = g}) (Given given) (Become change) (is_ok result) (is_ok result) old new
    changed =
        let stays = StaysOrFails-trans _ _ _ k.stays later in
        record {
          stays = record {
            was_faithful = stays.clean faithful;
            counts = stays.faults;
            closes = still_or_failed old.file new.file stays;
            was_usable = stays.was_ready;
            is_usable = λ done. is_done result done fin.usable;
          };
          done = λ done m was. record { t = change m; holds = refl; represents = represented m was.t was.holds.0 was.holds.1 was.represents done };
          kept = λ failed. record {
            represents = represented_again failed;
            reads = read_again failed;
            same = λ settled usable. same_kept failed settled usable;
          };
          crash = leaves;
        }

    -- one that any rows may undergo
    pub changed_any : ((t : Tables) → given t) → Changed (state_of {D = D} {g = g}) Are (Become change) (is_ok result) (is_ok result) old new
    changed_any any =
        let it = changed in
        record {
          stays = it.stays;
          done = λ done m was. it.done done m (record { t = was.t; holds = (any m, was.holds); represents = was.represents });
          kept = it.kept;
          crash = λ m was. it.crash m (record { t = was.t; holds = (any m, was.holds); represents = was.represents });
        }

    -- over a store that could not be used nothing was written, and a crash leaves nothing new
    pub kept_shut : OnOk written (IsUsable mid.file) → calls.KeepsIfShut (state_of {D = D} {g = g}) old new
    kept_shut usable shut left (sized, (image, may, same)) =
        either written usable fin.unwritten
        (λ still. absurd (shut (k.stays.was_ready still)))
        (λ kept. let (before, might, then) = kept.crash image may in inl (leaves_old left image same sized before might then))
