-- Why a row is not put behind others.
use Rattle.std.proofs.Common.{◌≡◌, List, [], ◌∷◌, IsTrue, refl, subst, inl, inr, ◌∙◌}
use Rattle.sqlite_disk.specs.declared.Disk.{Ghosts}
use Rattle.sqlite_pool.specs.Pool.{state}
use Rattle.sqlite_pool.specs.Stored.{Keeps}
use Rattle.sqlite_schema.specs.declared.schema.Index.{Index}
use Rattle.sqlite_value.specs.Order.{Row}
use Rattle.page_files.specs.declared.files.PageFile.{PageFile}
use Rattle.page_files.specs.Files.{FailsToRead, IsFaithful}
use Rattle.page_places.proofs.Failing.{reading_fails}
use Rattle.page_places.specs.Failures.{FailsToStore, end_of_walk, failure_of_row}
use Rattle.page_rows.specs.Walks.{FailsToWalk, MayRefuse}
use Rattle.page_rows.specs.declared.errors.WalkError.{WalkError}
use Rattle.page_rows.specs.declared.errors.WalkError.TheVariants as walks
use Rattle.plain_tables.specs.declared.errors.StoreError.{StoreError}
use Rattle.plain_tables.specs.declared.errors.StoreError.TheVariants.{Store}
use Rattle.page_places.specs.Causes.{FailsToNumber}
use Rattle.page_places.specs.declared.errors.RowError.{RowError}
use Rattle.page_places.specs.declared.errors.RowError.TheVariants.{Pages, Unstorable, NoRowid}
use Rattle.page_changes.specs.Causes.{CanFollow, FailsToSeek}
use Rattle.page_changes.specs.Named.{HasOutOfForm, IsRefused}

pub not_numbered : {D : Type 0} {g : Ghosts D} (old new : PageFile D g) (columns : Row) (rows : List Row) (indexes : List Index) (error : RowError) (e : StoreError) → e ≡ failure_of_row error
    → Keeps (state old.pool) (state new.pool) → IsTrue (state old.pool).is_open → IsFaithful new → FailsToNumber old new rows error → FailsToStore old new (CanFollow columns rows indexes) e
not_numbered old new columns rows indexes (Pages error) e is keeps is_open faithful fails = reading_fails old new error e is keeps is_open faithful fails
not_numbered old new columns rows indexes Unstorable e is keeps is_open faithful fails = absurd fails
not_numbered old new columns rows indexes NoRowid e is keeps is_open faithful last = inr (is, λ can. can.room last)

-- where more was needed in all
pub fails_with_more : {D : Type 0} {g : Ghosts D} (old new : PageFile D g) {P Q : Type 0} (e : StoreError) → (Q → P) → FailsToStore old new P e → FailsToStore old new Q e
fails_with_more old new e so (inl fails) = inl fails
fails_with_more old new e so (inr (is, none)) = inr (is, λ all. none (so all))

-- ---- a row that is sought

-- the row that was refused is out of form
pub refused_one : (rows : List Row) (e : StoreError) → MayRefuse IsRefused rows e → (e ≡ Store) × HasOutOfForm rows
refused_one [] e may = absurd may
refused_one (row ∷ rows) e (inl here) = (here.0, (row, inl refl, here.1))
refused_one (row ∷ rows) e (inr later) = let it = refused_one rows e later in (it.0, (it.1.0, inr it.1.1, it.1.2))

module _ {D : Type 0} {g : Ghosts D} (old new : PageFile D g) where
  -- what ended the walk has a cause
  pub walk_ended : (error : WalkError StoreError) {shown rows : List Row} {e : StoreError} → e ≡ end_of_walk error → shown ≡ rows → FailsToWalk (FailsToRead old new) (MayRefuse IsRefused shown) error → FailsToSeek old new rows e
  walk_ended (walks.Pages error) is same fails = inl (error, fails, is)
  walk_ended (walks.Refused end) is same fails = let it = refused_one _ end (subst (λ l. MayRefuse IsRefused l end) same fails) in inr (is ∙ it.0, it.1)

  -- the row was not sought
  pub not_sought : (rows : List Row) {Can : Type 0} (e : StoreError) → Keeps (state old.pool) (state new.pool) → IsTrue (state old.pool).is_open → IsFaithful new → (Can → HasOutOfForm rows → ⊥)
      → FailsToSeek old new rows e → FailsToStore old new Can e
  not_sought rows e keeps is_open faithful in_form (inl (error, fails, is)) = reading_fails old new error e is keeps is_open faithful fails
  not_sought rows e keeps is_open faithful in_form (inr (is, out)) = inr (is, λ can. in_form can out)
