-- Why a query fails that the schema understands.
use Rattle.std.proofs.Common.{◌≡◌, inl, inr, ℕ, List, [], Err, sym, ap, subst, ◌∙◌}
use Rattle.std.specs.Bool.{⊤}
use Rattle.sqlite_value.specs.Order.{Row}
use Rattle.sqlite_trees.specs.declared.error.StoreError.{StoreError}
use Rattle.sqlite_trees.specs.declared.error.StoreError.TheVariants.{OutOfMemory, Io, Corrupt, Full, Broken, Unstorable}
use Rattle.sqlite_schema.specs.declared.schema.Schema.{Schema}
use Rattle.sqlite_schema.specs.declared.program.Program.{Program}
use Rattle.sqlite_schema.specs.declared.command.Command.TheVariants.{Select}
use Rattle.sqlite_resolve.specs.declared.error.CompileError.{CompileError}
use Rattle.sqlite.specs.declared.error.Error.{Error}
use Rattle.sqlite.specs.declared.error.Error.TheVariants.{SqlInputError, QueryReturnedNoRows}
use Rattle.sqlite.specs.Clock.{timed}
use Rattle.sqlite.specs.Effect.{Database, RefusesToRead, RefusesQuery}
use Rattle.sqlite.specs.Listing.{understood}
use Rattle.sqlite.specs.State.{State, FailsToQuery, QueriesRow, Shown, IsNotRun, store_error}
use Rattle.sqlite.proofs.Callers.{IsPlain, command_of}

-- an error that blames neither the text nor a lack of rows
abbrev pub IsFailure : Error → Type 0
IsFailure (SqlInputError fault) = ⊥
IsFailure QueryReturnedNoRows = ⊥
IsFailure e = ⊤

pub failure_of : (cause : StoreError) → IsFailure (store_error cause)
failure_of OutOfMemory = tt
failure_of Io = tt
failure_of Corrupt = tt
failure_of Full = tt
failure_of Broken = tt
failure_of Unstorable = tt

refused_read : (limit : _) (p : Program) (db : Database) (params : Row) (e : Error) → RefusesQuery limit db p params e → IsFailure e
refused_read limit p db params e (inl h) = subst IsFailure (sym h.0) tt
refused_read limit p db params e (inr (inl h)) = subst IsFailure (sym h.0) tt
refused_read limit p db params e (inr (inr h)) = subst IsFailure (sym h.0) tt

module _ (schema : Schema) (sql : List ℕ) (q : Program) (names : List (List ℕ)) (means : command_of (understood schema sql) ≡ Select q names) (plain : IsPlain (understood schema sql)) (params : Row) (old new : State)
    (has : old.now.schema ≡ schema) where
  bare : IsPlain (understood old.now.schema sql)
  bare = subst (λ s. IsPlain (understood s sql)) (sym has) plain

  pub failed : (e : Error) → FailsToQuery sql params old new e → IsFailure e
  unfolding FailsToQuery IsNotRun
  failed e (inl (inl (inl bad, same))) = absurd (subst IsPlain bad.1 bare)
  failed e (inl (inl (inr (c, is, inl many), same))) = subst IsFailure (sym many.1) tt
  failed e (inl (inl (inr (c, is, inr (inl count)), same))) = subst IsFailure (sym count.1) tt
  failed e (inl (inl (inr (c, is, inr (inr clock)), same))) = subst IsFailure (sym clock.1) tt
  failed e (inl (inr fails)) = subst IsFailure (sym fails.1) (failure_of fails.0)
  failed e (inr h) =
      let known = sym h.1.is ∙ ap (λ s. understood s sql) has in
      let none = (subst IsPlain h.1.is bare).0 in
      let it = rw none at h.2 in
      let full = timed params h.0.formats h.1.now in
      refused_read old.step_limit q it.0 full e (subst (λ k. RefusesToRead old.step_limit k it.0 full e) (ap command_of known ∙ means) it.2)

  -- a query for one row that found none
  pub none_there : QueriesRow sql params old new (Err QueryReturnedNoRows) → Shown sql params old new []
  unfolding QueriesRow
  none_there (inl h) = absurd (failed QueryReturnedNoRows h)
  none_there (inr h) = h.1

  -- the text is understood
  pub never_blames : (fault : CompileError) → ¬ (QueriesRow sql params old new (Err (SqlInputError fault)))
  unfolding QueriesRow
  never_blames fault (inl h) = failed (SqlInputError fault) h
  never_blames fault (inr h) = cc
