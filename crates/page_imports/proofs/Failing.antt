-- Why a step of an import fails, as a part of the whole.
use Rattle.std.proofs.Common.{inl, inr, refl}
use Rattle.sqlite_disk.specs.declared.Disk.{Ghosts}
use Rattle.page_files.specs.declared.files.PageFile.{PageFile}
use Rattle.page_places.specs.Failures.{FailsToStore}
use Rattle.page_places.proofs.Failing.{memory_fails}
use Rattle.plain_tables.specs.declared.errors.StoreError.{StoreError}
use Rattle.plain_tables.specs.declared.errors.StoreError.TheVariants.{Memory, Store}
use Rattle.page_imports.specs.RowFits.{RefusesUnless}

-- what is refused is refused where more was needed in all
pub refuses_for : {P Q : Type 0} (e : StoreError) → (Q → P) → RefusesUnless P e → RefusesUnless Q e
refuses_for Memory so h = tt
refuses_for Store so h = λ all. h (so all)

module _ {D : Type 0} {g : Ghosts D} (old new : PageFile D g) where
  pub fails_for : {P Q : Type 0} (e : StoreError) → (Q → P) → FailsToStore old new P e → FailsToStore old new Q e
  fails_for e so (inl fails) = inl fails
  fails_for e so (inr (is, none)) = inr (is, λ all. none (so all))

  -- what does not fit is not stored
  pub refuses_fails : {P Q : Type 0} (e : StoreError) → (Q → P) → RefusesUnless P e → FailsToStore old new Q e
  refuses_fails Memory so h = memory_fails old new Memory refl
  refuses_fails Store so h = inr (refl, λ all. h (so all))
