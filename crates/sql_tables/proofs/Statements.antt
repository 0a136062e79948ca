-- One statement that writes, by itself or in a transaction: from what it makes of the rows to the guarantees of a call.
use Rattle.std.proofs.Common.{◌≡◌, inl, inr, ℕ, List, false, Option, None, Ok, Err, Result, subst}
use Rattle.sqlite_value.specs.Order.{Row}
use Rattle.sqlite_trees.specs.Tree.{Trees}
use Rattle.sqlite_schema.specs.declared.schema.Schema.{Schema}
use Rattle.sqlite_schema.specs.declared.command.Command.{Command}
use Rattle.sqlite_schema.specs.declared.command.Command.TheVariants.{Select, Insert, InsertOr, Update, Delete, CreateTable, CreateIndex, DropTable, DropIndex, Begin, Commit, Rollback, Savepoint, Release, RollbackTo, Nothing, CreateView, DropView, Rows}
use Rattle.sqlite.specs.declared.error.Error.{Error}
use Rattle.sqlite.specs.declared.run.Mode.{Mode}
use Rattle.sqlite_schema.specs.declared.schema.Keys.TheVariants.{Enforced}
use Rattle.sqlite.specs.Effect.{Database, IsDatabase}
use Rattle.sqlite.specs.Does.{Tally, Does}
use Rattle.sqlite.specs.Calls.{IsWrite}
use Rattle.sqlite.specs.Listing.{understood}
use Rattle.sqlite.specs.State.{State, Runs, Writes, Executes, ExecutesIn, ExecutesInside}
use Rattle.sqlite.proofs.Callers.{IsPlain, command_of, statement_of, runs_as}
use Rattle.sql_tables.specs.States.{Works, KeepsCommit}

abbrev pub plain_mode : Mode
plain_mode = record { keys = Enforced; in_doubt = false; may_wait = false }

pub write_runs : (old new : State) (command : Command) (text : List ℕ) (params : Row) (count : ℕ) → IsWrite command → Runs old new None command text params count → Writes old new None command text params count
write_runs old new (Select q names) text params count is h = absurd is
write_runs old new (Insert at from) text params count is h = h
write_runs old new (InsertOr at how from clauses) text params count is h = h
write_runs old new (Update at q) text params count is h = h
write_runs old new (Delete at q) text params count is h = h
write_runs old new CreateTable text params count is h = h
write_runs old new (CreateIndex at) text params count is h = h
write_runs old new (DropTable at) text params count is h = h
write_runs old new (DropIndex at) text params count is h = h
write_runs old new Begin text params count is h = absurd is
write_runs old new Commit text params count is h = absurd is
write_runs old new Rollback text params count is h = absurd is
write_runs old new (Savepoint name) text params count is h = absurd is
write_runs old new (Release name) text params count is h = absurd is
write_runs old new (RollbackTo name) text params count is h = absurd is
write_runs old new (Rows values width names) text params count is h = absurd is
write_runs old new Nothing text params count is h = absurd is
write_runs old new CreateView text params count is h = h
write_runs old new (DropView at) text params count is h = h

-- a statement inside a transaction leaves the last commit
pub inside_kept : (sql : List ℕ) (params : Row) (old new : State) (r : Result ℕ Error) → ExecutesInside 0 sql params old new r → KeepsCommit old new
inside_kept sql params old new (Ok count) h is_open = (h.1.was_open, h.1.committed_is)
inside_kept sql params old new (Err e) (inl h) is_open = elim h.1 [ inl same ↦ (same.0.was_open, same.0.committed_is) | inr back ↦ (back.was_open is_open, (back.undone is_open).1) ]
inside_kept sql params old new (Err e) (inr h) is_open = (h.2.0.was_open, h.2.0.committed_is)

-- a statement that writes, as a schema understands it
module _ (schema : Schema) (sql : List ℕ) (params : Row) (command : Command) (means : command_of (understood schema sql) ≡ command) (plain : IsPlain (understood schema sql)) (writes : IsWrite command) where
  -- what it makes of tables that P holds of
  module _ (P Q : Trees → Type 0)
      (makes : (limit : Option ℕ) (trees : Trees) (text : List ℕ) (tally : Tally) (after : Database) → P trees → IsDatabase after
      → Does limit plain_mode params (record { schema = schema; trees = trees }) text None command (Ok (tally, after))
      → (after.schema ≡ schema) × Q after.trees) where
    pub inside_done : (old new : State) (count : ℕ) → Works schema P old → ExecutesInside 0 sql params old new (Ok count) → Works schema Q new
    inside_done old new count was h =
        let w = write_runs old new command _ params count writes (runs_as sql params old new schema was.schema_is command means plain count h.0) in
        let all = makes old.step_limit old.now.trees _ w.tally new.now was.holds w.sound
        (subst (λ t. Does old.step_limit plain_mode params (record old.now { schema = t }) (statement_of sql (understood schema sql)) None command (Ok (w.tally, new.now))) was.schema_is w.changed) in
        record { schema_is = all.0; holds = all.1; running = h.1.mode }
