-- Why calls fail that stand one after another in a transaction.
use Rattle.std.proofs.Common.{◌≡◌, ◌⊎◌, ◌≤◌, ℕ, false, IsTrue, refl, inl, inr, arith}
use Rattle.sqlite_disk.specs.Disk.{MoreFaults}
use Rattle.sqlite_disk.specs.declared.Disk.{Ghosts}
use Rattle.sqlite_pages.specs.Outcome.{HasCause, IsExcused}
use Rattle.sqlite_pages.specs.declared.error.Error.{Error}
use Rattle.sqlite_pages.specs.declared.error.Error.TheVariants.{Corrupt, Io, Full, OutOfMemory}
use Rattle.sqlite_pool.specs.declared.pool.Pool.{Pool}
use Rattle.sqlite_pool.specs.Pool as pools
use Rattle.sqlite_pool.specs.Pool.{state}
use Rattle.sqlite_pool.specs.Stored.{Keeps}
use Rattle.sqlite_pool.specs.StoredLaws.{Keeps-refl, Keeps-trans}
use Rattle.sqlite_wal.specs.State.{StaysOrFails}
use Rattle.sqlite_store.specs.Limit.{Fails}
use Rattle.page_files.specs.declared.files.PageFile.{PageFile}
use Rattle.page_files.specs.Files.{faults, IsFaithful, FailsToRead}
use Rattle.page_files.specs.Writes.{ComesToLimit, FailsToWrite}

-- a cause stays one where the disk was looked at for longer, and the limit is wider
longer : (a b c d : ℕ) (P Q : Type 0) (e : Error) → a ≤ b → c ≤ d → (P → Q) → Fails b c P e → Fails a d Q e
longer a b c d P Q Corrupt early late wider h = h
longer a b c d P Q Io early late wider h = omega arith
longer a b c d P Q Full early late wider h = wider h
longer a b c d P Q OutOfMemory early late wider h = h

-- that the files are shut has a cause too
shut : (old new : ℕ) (end : ℕ) (IsShut IsFull Limit : Type 0) (e : Error) → end ≡ new → (IsShut → MoreFaults old new)
    → HasCause old (record { faults = end; IsShut = IsShut; IsFull = IsFull }) Limit e → Fails old new (IsFull ⊎ Limit) e
shut old new end IsShut IsFull Limit Corrupt is closes h = h
shut old new end IsShut IsFull Limit Io is closes h = elim h [ inl more ↦ omega arith | inr closed ↦ closes closed ]
shut old new end IsShut IsFull Limit Full is closes h = h
shut old new end IsShut IsFull Limit OutOfMemory is closes h = h

widened : (old new : ℕ) (P Q : Type 0) (e : Error) → (P → Q) → Fails old new P e → Fails old new Q e
widened old new P Q e wider = longer old old new new P Q e (omega arith) (omega arith) wider

module _ {D : Type 0} {g : Ghosts D} where
  -- a later call fails
  pub fails_later : (a b c : PageFile D g) (e : Error) → Keeps (state a.pool) (state b.pool) → FailsToWrite b c e → FailsToWrite a c e
  fails_later a b c e k =
      longer (faults a) (faults b) (faults c) (faults c) (ComesToLimit b) (ComesToLimit a) e k.stays.faults (omega arith) (λ limit. (limit.0, Keeps-trans _ _ _ k limit.1, limit.2))

  -- a call below fails, in which the file was at a limit
  pub fails_within : (old new : PageFile D g) (Limit : Type 0) (e : Error) → Keeps (state old.pool) (state new.pool) → IsTrue (state old.pool).is_open → IsFaithful new
      → (Limit → ComesToLimit old) → HasCause (faults old) (pools.ending new.pool) Limit e → FailsToWrite old new e
  fails_within old new Limit e k is_open faithful wider h =
      widened (faults old) (faults new) (pools.IsFull new.pool ⊎ Limit) (ComesToLimit old) e (λ either. elim either [ inl full ↦ (new, k, inl full) | inr limit ↦ wider limit ])
      (shut (faults old) (faults new) (faults new) ((state new.pool).is_open ≡ false) (pools.IsFull new.pool) Limit e refl (λ closed. k.stays.closes is_open closed faithful) h)

  -- a call that reads fails
  pub fails_to_read : (old new : PageFile D g) (e : Error) → Keeps (state old.pool) (state new.pool) → IsTrue (state old.pool).is_open → IsFaithful new → FailsToRead old new e → FailsToWrite old new e
  fails_to_read old new e k is_open faithful = fails_within old new ⊥ e k is_open faithful (λ none. absurd none)

  -- the file is not usable afterwards
  pub fails_for_good : (old new : PageFile D g) (e : Error) → Keeps (state old.pool) (state new.pool) → IsTrue (state old.pool).is_ready → e ≡ Io → (state new.pool).is_ready ≡ false → FailsToWrite old new e
  fails_for_good old new e k ready is stops = rw is (k.stays.stops ready stops)

  -- a commit fails, and what was written is forgotten
  pub commit_fails : (old new : PageFile D g) (mid made : Pool D g) (e : Error) → Keeps (state old.pool) (state mid) → StaysOrFails (state mid) (state made) → Keeps (state made) (state new.pool)
      → IsTrue (state mid).is_open → IsTrue (state made).is_clean → IsExcused (state mid).faults (pools.ending made) e → (e ≡ Full → pools.IsTooLong old.pool) → FailsToWrite old new e
  commit_fails old new mid made Corrupt j s k mid_open faithful h long = h
  commit_fails old new mid made Io j s k mid_open faithful h long =
      elim h [ inl more ↦ omega (arith, j.stays.faults, k.stays.faults, more) | inr closed ↦ omega (arith, j.stays.faults, k.stays.faults, s.closes mid_open closed faithful) ]
  commit_fails old new mid made Full j s k mid_open faithful h long = (old, Keeps-refl (state old.pool), inr (inl (long refl)))
  commit_fails old new mid made OutOfMemory j s k mid_open faithful h long = tt
