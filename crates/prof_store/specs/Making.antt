-- What each part of the transaction that makes the tables leaves.
use Rattle.std.specs.Prelude.{◌≡◌, Bool, List, IsTrue}
use Rattle.sqlite_value.specs.Order.{Row}
use Rattle.sqlite_trees.specs.Tree.{Trees}
use Rattle.sqlite_trees.specs.declared.store.Store.{Ghosts}
use Rattle.sqlite_schema.specs.declared.schema.Schema.{Schema}
use Rattle.sqlite.specs.State.{State, Survives}
use Rattle.sqlite.specs.declared.transaction.Transaction.{Transaction}
use Rattle.sql_tables.specs.Contents.{Contain, no_rows}
use Rattle.sql_tables.specs.States.{Begins, Works, KeepsCommit}
use Rattle.prof_store.specs.Schema.{empty_schema, schema_two}
use Rattle.plain_tables.specs.Tables.{new_tables}
use Rattle.prof_store.specs.Tables.{Holds}
use Rattle.prof_store.specs.Within.{inside, FoundOpen, IsFaithful, IsRunning}

-- there is no row in the tables of a schema
abbrev pub AreEmpty : Schema → Trees → Type 0
AreEmpty schema = Contain schema (no_rows schema.tables)

module _ {S : Type 0} (g : Ghosts S) where
  -- whatever comes of a call, it commits nothing; done, it found the connection open, the transaction goes on, and what it sees is the one thing where it was the other
  pub record Makes (is_done : Bool) (Before After : State → Type 0) (old new : Transaction S) : Type 0 where
    pub same_reference : new.conn.ghost_name ≡ old.conn.ghost_name
    pub survives : Survives (inside g old) (inside g new) (λ _. ⊥)
    pub kept : IsFaithful g new → IsRunning g old → KeepsCommit (inside g old) (inside g new)
    pub running : IsTrue is_done → IsFaithful g new → IsRunning g old → IsRunning g new
    pub found_open : FoundOpen g is_done old new
    pub done : IsTrue is_done → IsFaithful g new → Before (inside g old) → After (inside g new)

  -- the tables of a further schema are made
  abbrev pub MakesTables : Bool → Schema → Schema → Transaction S → Transaction S → Type 0
  MakesTables is_done from to old new = Makes is_done (Begins from) (Works to (AreEmpty to)) old new

  -- tables with these rows become others, with those rows
  abbrev pub ChangesTables : Bool → Schema → List (List Row) → Schema → List (List Row) → Transaction S → Transaction S → Type 0
  ChangesTables is_done from contents to others old new = Makes is_done (Works from (Contain from contents)) (Works to (Contain to others)) old new

  -- whatever it makes of the tables
  abbrev pub CommitsNothing : Bool → Transaction S → Transaction S → Type 0
  CommitsNothing is_done old new = Makes is_done (λ _. ⊥) (λ _. ⊥) old new

  -- tables without rows become those of a new store
  abbrev pub BeginsStore : Bool → Transaction S → Transaction S → Type 0
  BeginsStore is_done old new = Makes is_done (Works schema_two (AreEmpty schema_two)) (Works schema_two (Holds new_tables)) old new

  -- where there was no table, there are those of a new store
  abbrev pub FillsStore : Bool → Transaction S → Transaction S → Type 0
  FillsStore is_done old new = Makes is_done (Begins empty_schema) (Works schema_two (Holds new_tables)) old new
