-- A call on one tree within a transaction.
use Rattle.std.proofs.Common.{◌≡◌, ℕ, ◌^◌, ◌<◌, false, List, Result, Ok, Err, OnOk, IfErr, MatchResult, inr}
use Rattle.sqlite_disk.specs.declared.Disk.{Ghosts}
use Rattle.sqlite_pages.specs.Outcome.{HasCause}
use Rattle.sqlite_pages.specs.declared.error.Error.{Error}
use Rattle.sqlite_pages.specs.declared.error.Error.TheVariants.{Io}
use Rattle.sqlite_pool.specs.Pool as pools
use Rattle.sqlite_pool.specs.Pool.{state}
use Rattle.sqlite_pool.specs.Stored.{Keeps}
use Rattle.sqlite_pool.specs.StoredLaws.{Keeps-refl}
use Rattle.sqlite_wal.proofs.StateLemmas.{open_from, ready_of}
use Rattle.sqlite_value.specs.Order.{Row}
use Rattle.sqlite_store.specs.declared.catalog.Wanted.{Wanted}
use Rattle.sqlite_store.specs.Db.{Edits}
use Rattle.sqlite_store.specs.Limit.{HasDeepTree}
use Rattle.sqlite_trees.specs.Tree.{Trees, with_tree}
use Rattle.page_files.specs.declared.files.PageFile.{PageFile}
use Rattle.page_files.specs.Files.{faults, page_size, pages_of, IsFaithful, IsUsable}
use Rattle.page_files.specs.Held.{Writes}
use Rattle.page_files.specs.Writes.{FailsToWrite}
use Rattle.page_files.proofs.Causes.{fails_within, fails_for_good}
use Rattle.page_files.proofs.Steps.{edited}

module _ {D : Type 0} {g : Ghosts D} (old new : PageFile D g) {wanted : List Wanted} {roots : List ℕ} {was now : Trees} (k : Keeps (state old.pool) (state new.pool)) (faithful : IsFaithful new) (w : Writes wanted roots was now old) where
  -- it failed
  pub edit_fails : (root : ℕ) (e : Error) → HasCause (faults old) (pools.ending new.pool) (HasDeepTree (page_size old) (pages_of old) root) e → FailsToWrite old new e
  edit_fails root e =
      fails_within old new (HasDeepTree (page_size old) (pages_of old) root) e k w.is_open faithful (λ deep. (old, Keeps-refl (state old.pool), inr (inr (root, deep))))

  -- it is done, and whether the file is usable is looked at
  pub edit_done : {t : ℕ} (edit : List Row → List Row) (r : Result (Unit {0}) Error) → t < 2 ^ 32 → Edits (page_size old) wanted (pages_of old) (pages_of new) t edit
      → OnOk r (IsUsable new) → IfErr r (λ e. (e ≡ Io) × ((state new.pool).is_ready ≡ false)) → MatchResult r (λ _. Writes wanted roots was (with_tree now t (edit (now t))) new) (FailsToWrite old new)
  edit_done edit (Ok x) low e ready stops = edited old new edit k (open_from (state new.pool) ready faithful) w low e
  edit_done edit (Err e) low done ready stops = fails_for_good old new e k (ready_of (state old.pool) w.is_open) stops.0 stops.1
