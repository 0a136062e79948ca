-- Queries over a database of any schema.
use Rattle.std.proofs.Common.{◌⊎◌, inl, inr, ◌≡◌, ℕ, List, [], Bool, true, false, Ok, Err, IsTrue}
use Rattle.sqlite_value.specs.Order.{Row}
use Rattle.sqlite.specs.declared.error.Error.{Error}
use Rattle.sqlite.specs.State.{State, HasCleanDisk, Survives, IsUnchanged, IsRolledBack, Shown, QueriesRow, CommitsShowing}
use Rattle.sql_tables.specs.Calls.{Asked}
use Rattle.sql_tables.proofs.Opens.{WasOpen, row_open, row_was_open}
use Rattle.sql_tables.proofs.Queries.{failed_keeps}
use Rattle.sql_tables.proofs.Returning.{HasNoReturning, none_of, commits_none}
use Rattle.sql_tables.proofs.Calls.{stays_by, before_kept}

module _ (sql : List ℕ) (bare : HasNoReturning sql) (params : Row) (old new : State) where
  shown_unchanged : (rows : List Row) → Shown sql params old new rows → IsUnchanged old new
  unfolding Shown
  shown_unchanged rows h = (rw (none_of sql bare old.now.schema h.0 h.1.is) at h.2).3

  row_unchanged : (row : Row) → QueriesRow sql params old new (Ok row) → IsUnchanged old new
  unfolding QueriesRow
  row_unchanged row (inl h) = h.1
  row_unchanged row (inr h) = shown_unchanged h.0 h.1

  row_failed : (e : Error) → QueriesRow sql params old new (Err e) → IsUnchanged old new ⊎ IsRolledBack old new
  unfolding QueriesRow
  row_failed e (inl h) = failed_keeps sql params old new e h
  row_failed e (inr h) = inl (shown_unchanged [] h.1)

  -- a query for one row of tables of any schema changes nothing
  module _ (clean : HasCleanDisk new) (survives : Survives old new (CommitsShowing sql params old)) where
    asks : (ok : Bool) → WasOpen old new → (IsTrue ok → IsTrue new.is_open) → (IsTrue ok → IsUnchanged old new) → IsUnchanged old new ⊎ IsRolledBack old new → Asked old.now.schema ok old new
    asks ok was_open is_open same kept = record {
      stays = stays_by ok old new survives clean was_open is_open;
      same = λ is has. (same is).0.now_is;
      kept = λ was is_open. before_kept old.now.schema old new was is_open kept;
      crash = λ db may. elim (survives.crash clean db may) [ inl before ↦ inl before | inr made ↦ absurd (commits_none sql bare params old db made) ];
    }

    pub any_row_asks : (row : Row) → QueriesRow sql params old new (Ok row) → Asked old.now.schema true old new
    any_row_asks row h =
        let is = row_open sql params old new row h in
        let same = row_unchanged row h in
        asks true (λ _. is.was_open) (λ _. is.is_open) (λ _. same) (inl same)

    pub any_row_refused : (e : Error) → QueriesRow sql params old new (Err e) → Asked old.now.schema false old new
    any_row_refused e h = asks false (row_was_open sql params old new (Err e) h) (λ (none : false ≡ true). absurd cc) (λ (none : false ≡ true). absurd cc) (row_failed e h)
