-- A change that was written is concluded: the small tables are read anew, and it is committed or undone.
use Rattle.std.proofs.Common.{◌≡◌, IsTrue, Result, Ok, Err, OnOk, OnErr, refl, sym, subst, ◌∙◌, inl, inr}
use Rattle.sqlite_disk.specs.declared.Disk.{Ghosts}
use Rattle.sqlite_pool.specs.Pool as pools
use Rattle.sqlite_pool.specs.Stored.{Keeps, RecoversAs, Recovers}
use Rattle.sqlite_pool.proofs.StateLemmas.{clean_if_left}
use Rattle.sqlite_wal.specs.State.{StaysOrFails}
use Rattle.sqlite_wal.proofs.StateLemmas.{StaysOrFails-trans}
use Rattle.sqlite_trees.specs.Tree.{Trees}
use Rattle.page_files.specs.declared.files.PageFile.{PageFile}
use Rattle.page_files.specs.Files.{IsFaithful, IsUsable, OnlyReads}
use Rattle.page_files.specs.Held.{Has}
use Rattle.page_files.specs.Writes.{CommitsAtMost}
use Rattle.page_files.proofs.Standing.{stands_writing}
use Rattle.page_files.proofs.Steps.{stands_on_along, writes_after}
use Rattle.plain_tables.specs.Tables.{Tables}
use Rattle.plain_tables.specs.declared.errors.StoreError.{StoreError}
use Rattle.run_lists.specs.Listed.{AreListed}
use Rattle.run_lists.specs.declared.listed.RunLists.{RunLists}
use Rattle.prof_store.specs.Tables.{Holds}
use Rattle.page_runs.specs.Finished.{Commits, Finishes, IsUndone}
use Rattle.page_places.specs.Roots.{AreRoots}
use Rattle.page_lists.specs.Shown.{StandUnder}
use Rattle.page_runs.specs.declared.store.PageRuns.{PageRuns}
use Rattle.page_lists.proofs.Rooting.{tables_show}
use Rattle.page_runs.proofs.Taken.{represents_as}

three_ok : {T E : Type 0} (r : Result T E) {P Q R S : Type 0} → (P → Q → R → S) → OnOk r P → OnOk r Q → OnOk r R → OnOk r S
three_ok (Ok x) so p q s = so p q s
three_ok (Err e) so p q s = tt

if_err : {T E : Type 0} (r : Result T E) {P Q : Type 0} → (P → Q) → OnErr r P → OnErr r Q
if_err (Ok x) so p = tt
if_err (Err e) so p = so p

module _ {D : Type 0} {g : Ghosts D} where
  -- what commits nothing leaves at most what a commit may
  pub commits_nothing : (old new : PageFile D g) → Keeps (pools.state old.pool) (pools.state new.pool) → CommitsAtMost old new
  commits_nothing old new k image may = inl (k.crash image may)

  module _ (old mid new : PageRuns D g) (reads : OnlyReads old.file mid.file) (lists : mid.lists ≡ old.lists) (roots : mid.roots ≡ old.roots)
      (kept_cells : mid.kept_cells ≡ old.kept_cells) where
    k : Keeps (pools.state old.file.pool) (pools.state mid.file.pool)
    k = reads.keeps

    -- undone after reading, it is as before
    pub undone_behind : StaysOrFails (pools.state mid.file.pool) (pools.state new.file.pool) → IsUndone mid new → IsUndone old new
    undone_behind stays u = record {
      lists = u.lists ∙ lists;
      roots = u.roots ∙ roots;
      kept_cells = u.kept_cells ∙ kept_cells;
      forgets = record { clean = u.forgets.clean; committed = u.forgets.committed ∙ k.committed (stays.was_open u.forgets.clean.is_open) };
      rests = λ wanted known was stands. u.rests wanted known was (stands_on_along old.file mid.file k stands);
    }

    -- a commit after reading leaves at most what a commit may
    commits_behind : IsUsable mid.file → (IsTrue (pools.state new.file.pool).is_clean → IsFaithful mid.file) → CommitsAtMost mid.file new.file → CommitsAtMost old.file new.file
    commits_behind usable earlier after image may = elim (after image may) [
      | inl (before, might, then) ↦
          let (first, was, again) = k.crash before might in
          inl (first, was, λ pages is. subst (λ n. RecoversAs n before image) k.stays.size then pages (again pages is))
      | inr (pages, found, has) ↦
          inr (
            pages,
            subst (λ n. Recovers n image pages) k.stays.size found,
            λ wanted known was now writes.
                subst (λ n. Has n wanted now pages) k.stays.size (has wanted known was now (writes_after old.file mid.file reads (earlier (clean_if_left new.file.pool image may)) usable writes)),
          )
    ]

    -- read and committed, or undone
    pub concluded : (read : RunLists) (result : Result (Unit {0}) StoreError) → IsUsable mid.file
        → (IsFaithful mid.file → (t : Tables) (db : Trees) → Holds t db → StandUnder old.file db old.roots → AreListed t read)
        → Commits read result mid new → Finishes (Ok tt) result old new
    concluded read result usable listed commits = record {
      stays = StaysOrFails-trans _ _ _ k.stays commits.stays;
      usable = commits.usable;
      wrote = λ done. refl;
      made = λ faithful wanted known was next t writes are holds order.
          let earlier = commits.stays.clean faithful in
          let later = writes_after old.file mid.file reads earlier usable writes in
          let shown = tables_show old.file next known (stands_writing old.file writes) holds.contain.sound old.roots are in
          let told = listed earlier t next holds shown in
          three_ok result (λ same rests still. represents_as t new next known rests holds order (subst (AreRoots known) (sym (same.1 ∙ roots)) are) (subst (AreListed t) (sym same.0) told) (same.2 t) still)
          commits.made (commits.rests faithful wanted known was next later) commits.usable;
      undone = λ faithful. if_err result (λ u still. undone_behind commits.stays (u still)) (commits.undone faithful);
      crash = commits_behind usable commits.stays.clean commits.crash;
      unwritten = tt;
    }
