-- Failures of steps that stand one after another in a transaction.
use Rattle.std.proofs.Common.{◌≡◌, ◌≤◌, ℕ, IsTrue, inl, inr, arith}
use Rattle.sqlite_pages.specs.Outcome.{End, HasCause}
use Rattle.sqlite_disk.specs.declared.Disk.{Ghosts}
use Rattle.sqlite_pages.specs.declared.error.Error.{Error}
use Rattle.sqlite_pages.specs.declared.error.Error.TheVariants.{Corrupt, Io, Full, OutOfMemory}
use Rattle.sqlite_pool.specs.Pool.{ending, state}
use Rattle.sqlite_pool.specs.Stored.{Keeps}
use Rattle.page_files.specs.declared.files.PageFile.{PageFile}
use Rattle.page_files.specs.Files.{faults, FailsToRead, IsFaithful, OnlyReads}
use Rattle.page_files.specs.Writes.{FailsToWrite}
use Rattle.page_files.proofs.Causes.{fails_later, fails_to_read}
use Rattle.plain_tables.specs.declared.errors.StoreError.{StoreError}
use Rattle.plain_tables.specs.declared.errors.StoreError.TheVariants.{Memory}
use Rattle.page_places.specs.Causes.{FailsToChange}
use Rattle.page_places.specs.declared.errors.RowError.{RowError}
use Rattle.page_places.specs.declared.errors.RowError.TheVariants.{Pages, Unstorable, NoRowid}
use Rattle.page_places.specs.Failures.{FailsToStore, IsFailureOf, failure_of, failure_of_row}

module _ {D : Type 0} {g : Ghosts D} (old new : PageFile D g) where
  -- memory may run out at any time
  pub memory_fails : {Can : Type 0} (e : StoreError) → e ≡ Memory → FailsToStore old new Can e
  memory_fails e is = inl (OutOfMemory, tt, is)

  -- the pages were not written
  pub pages_fail : {Can : Type 0} (error : Error) (e : StoreError) → e ≡ failure_of error → FailsToWrite old new error → FailsToStore old new Can e
  pages_fail error e is fails = inl (error, fails, is)

  -- a row was not written
  pub row_fails : {Can : Type 0} (error : RowError) (e : StoreError) → e ≡ failure_of_row error → FailsToChange old new Can error → FailsToStore old new Can e
  row_fails (Pages error) e is fails = inl (error, fails, is)
  row_fails Unstorable e is fails = inr (is, fails)
  row_fails NoRowid e is fails = absurd fails

  -- the pages were not read
  pub reading_fails : {Can : Type 0} (error : Error) (e : StoreError) → e ≡ failure_of error → Keeps (state old.pool) (state new.pool) → IsTrue (state old.pool).is_open → IsFaithful new → FailsToRead old new error
      → FailsToStore old new Can e
  reading_fails error e is keeps is_open faithful fails = inl (error, fails_to_read old new error keeps is_open faithful fails, is)

-- a later step fails, of which more is needed in all
pub store_fails_later : {D : Type 0} {g : Ghosts D} (a b c : PageFile D g) {P Q : Type 0} (e : StoreError) → Keeps (state a.pool) (state b.pool) → (Q → P) → FailsToStore b c P e → FailsToStore a c Q e
store_fails_later a b c e keeps so (inl (error, fails, is)) = inl (error, fails_later a b c error keeps fails, is)
store_fails_later a b c e keeps so (inr (is, none)) = inr (is, λ all. none (so all))

-- a later call that reads fails
read_later : (a b : ℕ) (end : End) (error : Error) → a ≤ b → HasCause b end ⊥ error → HasCause a end ⊥ error
read_later a b end Corrupt early h = h
read_later a b end Io early (inl more) = inl (omega arith)
read_later a b end Io early (inr shut) = inr shut
read_later a b end Full early h = h
read_later a b end OutOfMemory early h = h

pub reads_later : {D : Type 0} {g : Ghosts D} (a b c : PageFile D g) (e : StoreError) → OnlyReads a b → IsFailureOf (FailsToRead b c) e → IsFailureOf (FailsToRead a c) e
reads_later a b c e reads (error, fails, is) = (error, read_later (faults a) (faults b) (ending c.pool) error reads.keeps.stays.faults fails, is)
