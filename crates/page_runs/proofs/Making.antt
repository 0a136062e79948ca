-- A change that was written into the pages: the transaction holds the changed rows.
use Rattle.std.proofs.Common.{ℕ, List, Result, Ok, Err, MatchResult, OnOk}
use Rattle.sqlite_disk.specs.declared.Disk.{Ghosts}
use Rattle.page_changes.specs.Changes as groups
use Rattle.plain_tables.specs.Tables.{Tables}
use Rattle.plain_tables.specs.declared.errors.StoreError.{StoreError}
use Rattle.prof_store.specs.Tables.{Holds}
use Rattle.page_files.specs.Held.{Rests, Writes}
use Rattle.run_lists.specs.Listed.{AreListed}
use Rattle.sqlite_store.specs.declared.catalog.Wanted.{Wanted}
use Rattle.sqlite_trees.specs.Tree.{Trees}
use Rattle.page_runs.specs.States.{IsFaithful, Represents}
use Rattle.page_runs.specs.declared.store.PageRuns.{PageRuns}
use Rattle.page_runs.proofs.Changes.{IsMade}

on_ok : {T E : Type 0} (r : Result T E) {P Q : Type 0} → (P → Q) → OnOk r P → OnOk r Q
on_ok (Ok x) so p = so p
on_ok (Err e) so p = tt

done_ok : {T E : Type 0} (r : Result T E) (P : Type 0) (F : E → Type 0) → MatchResult r (λ _. P) F → OnOk r P
done_ok (Ok x) P F p = p
done_ok (Err e) P F p = tt

module _ {D : Type 0} {g : Ghosts D} (old mid : PageRuns D g) (change : Tables → Tables) (written : Result (Unit {0}) StoreError) where
  -- what was written holds the changed rows
  pub listed_made : (IsFaithful mid → (wanted : List Wanted) (known : List ℕ) (db : Trees) (t : Tables) → Rests wanted known db old.file → Holds t db → AreListed t old.lists
      → OnOk written ((next : Trees) × Writes wanted known db next mid.file × Holds (change t) next))
      → IsFaithful mid → (t : Tables) → (was : Represents t old) → OnOk written (IsMade (change t) was mid)
  listed_made done faithful t was =
      on_ok written (λ (it : (next : Trees) × Writes was.wanted was.known was.db next mid.file × Holds (change t) next). record { next = it.0; writes = it.1; holds = it.2 })
      (done faithful was.wanted was.known was.db t was.rests was.holds was.reads.shows.listed)

  -- the same where a change that is not made has a cause
  pub listed_done : (Fails : Tables → StoreError → Type 0) → (IsFaithful mid → (wanted : List Wanted) (known : List ℕ) (db : Trees) (t : Tables) → Rests wanted known db old.file → Holds t db → AreListed t old.lists
      → MatchResult written (λ _. (next : Trees) × Writes wanted known db next mid.file × Holds (change t) next) (Fails t))
      → IsFaithful mid → (t : Tables) → (was : Represents t old) → OnOk written (IsMade (change t) was mid)
  listed_done Fails done = listed_made (λ faithful wanted known db t rests holds listed. done_ok written _ (Fails t) (done faithful wanted known db t rests holds listed))

  -- the same of a change of groups, which is told where their tables stand
  pub group_made : groups.Changes old.file mid.file old.roots old.lists change written → IsFaithful mid → (t : Tables) → (was : Represents t old) → OnOk written (IsMade (change t) was mid)
  group_made done faithful t was =
      on_ok written (λ (it : (next : Trees) × Writes was.wanted was.known was.db next mid.file × Holds (change t) next). record { next = it.0; writes = it.1; holds = it.2 })
      (done faithful was.wanted was.known was.db t was.rests was.holds was.reads.shows.listed was.roots)
