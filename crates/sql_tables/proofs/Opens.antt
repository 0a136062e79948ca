-- A call that answers finds the connection open and leaves it so, and no call opens a connection that is shut, whatever its schema.
use Rattle.std.proofs.Common.{◌≡◌, ◌⊎◌, inl, inr, ℕ, List, Option, None, Some, Ok, Err, Result, IsTrue}
use Rattle.sqlite_value.specs.Order.{Row}
use Rattle.sqlite_trees.specs.declared.error.StoreError.{StoreError}
use Rattle.sqlite_schema.specs.declared.command.Returning.{Returning}
use Rattle.sqlite_resolve.specs.Compile.{returning}
use Rattle.sqlite.specs.declared.error.Error.{Error}
use Rattle.sqlite.specs.Clock.{timed}
use Rattle.sqlite.specs.State.{State, IsUnchanged, IsRolledBack, IsNotRun, QueriesRow, Shown, ShowsRows, FailsToQuery, FailsToShow, store_error}

-- the connection was open and is
pub record IsOpen (old new : State) : Type 0 where
  pub was_open : IsTrue old.is_open
  pub is_open : IsTrue new.is_open

-- no call opens it
abbrev pub WasOpen : State → State → Type 0
WasOpen old new = IsTrue new.is_open → IsTrue old.is_open

pub open_if_same : (old new : State) → IsUnchanged old new → IsOpen old new
open_if_same old new same = record { was_open = same.0.was_open; is_open = same.0.is_open }

-- ---- queries

pub shown_open : (sql : List ℕ) (params : Row) (old new : State) (rows : List Row) → Shown sql params old new rows → IsOpen old new
unfolding Shown
shown_open sql params old new rows h = go h.0.returning h.2
  where
    go : (returning : Option Returning) → ShowsRows old new sql h.0 (timed params h.0.formats h.1.now) rows returning → IsOpen old new
    go None k = open_if_same old new k.3
    go (Some what) k = record { was_open = k.1.shown.was_open; is_open = k.1.shown.is_open }

-- a query that fails changes nothing, or the store failed
failed_so : (sql : List ℕ) (params : Row) (old new : State) (e : Error) → FailsToQuery sql params old new e → IsUnchanged old new ⊎ ((cause : StoreError) × (e ≡ store_error cause) × IsRolledBack old new)
unfolding FailsToQuery IsNotRun
failed_so sql params old new e (inl (inl h)) = inl h.1
failed_so sql params old new e (inl (inr h)) = inr (h.0, h.1, h.3)
failed_so sql params old new e (inr h) = go h.0.returning h.2
  where
    go : (returning : Option Returning) → FailsToShow old new sql h.0 (timed params h.0.formats h.1.now) e returning → IsUnchanged old new ⊎ ((cause : StoreError) × (e ≡ store_error cause) × IsRolledBack old new)
    go None k = inl k.3
    go (Some what) (inl k) = inl k.1
    go (Some what) (inr k) = inr (k.0, k.1, k.3)

pub fails_was_open : (sql : List ℕ) (params : Row) (old new : State) (e : Error) → FailsToQuery sql params old new e → WasOpen old new
fails_was_open sql params old new e h is_open = elim (failed_so sql params old new e h) [ inl same ↦ same.0.was_open | inr back ↦ back.2.was_open is_open ]

pub row_open : (sql : List ℕ) (params : Row) (old new : State) (row : Row) → QueriesRow sql params old new (Ok row) → IsOpen old new
unfolding QueriesRow
row_open sql params old new row (inl h) = open_if_same old new h.1
row_open sql params old new row (inr h) = shown_open sql params old new h.0 h.1

pub row_was_open : (sql : List ℕ) (params : Row) (old new : State) (r : Result Row Error) → QueriesRow sql params old new r → WasOpen old new
unfolding QueriesRow
row_was_open sql params old new (Ok row) h is_open = (row_open sql params old new row h).was_open
row_was_open sql params old new (Err e) (inl h) is_open = fails_was_open sql params old new e h is_open
row_was_open sql params old new (Err e) (inr h) is_open = (shown_open sql params old new _ h.1).was_open
