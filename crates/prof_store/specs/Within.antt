-- What a call within a transaction leaves, whatever it answers.
use Rattle.std.specs.Prelude.{◌≡◌, ℕ, Bool, List, IsTrue, Result}
use Rattle.std.specs.Bool.{⊤}
use Rattle.std.specs.Result.{is_ok}
use Rattle.sqlite_value.specs.Order.{Row}
use Rattle.sqlite_trees.specs.declared.store.Store.{Ghosts}
use Rattle.sqlite.specs.declared.error.Error.{Error}
use Rattle.sqlite.specs.declared.transaction.Transaction.{Transaction}
use Rattle.sqlite.specs.Held.{Held, state}
use Rattle.sqlite.specs.State.{State, HasCleanDisk, Survives, ExecutesInside}
use Rattle.sql_tables.specs.Calls.{KeepsIfShut}
use Rattle.sql_tables.specs.States.{Works, KeepsCommit}
use Rattle.prof_store.specs.Schema.{schema_two}
use Rattle.plain_tables.specs.Tables.{Tables}
use Rattle.prof_store.specs.Tables.{Holds}

module _ {S : Type 0} (g : Ghosts S) where
  -- what the connection shows
  abbrev pub inside : Transaction S → State
  inside tx = state g tx.conn.now

  -- so far the disk has returned what was written
  abbrev pub IsFaithful : Transaction S → Type 0
  IsFaithful tx = HasCleanDisk (inside tx)

  -- it goes on
  abbrev pub IsRunning : Transaction S → Type 0
  IsRunning tx = IsTrue (inside tx).in_transaction

  -- it goes on, and the tables that it sees hold these lines
  abbrev pub Sees : Tables → Transaction S → Type 0
  Sees t tx = Works schema_two (Holds t) (inside tx)

  -- a call that changes the tables, where they are in a state for it: whatever comes of it, it commits nothing, so a crash leaves what it could leave before; done, the transaction goes on with the change
  pub record WritesIf (is_done : Bool) (given : Tables → Type 0) (change : Tables → Tables) (old new : Transaction S) : Type 0 where
    pub same_reference : new.conn.ghost_name ≡ old.conn.ghost_name
    pub survives : Survives (inside old) (inside new) (λ _. ⊥)
    pub kept : IsFaithful new → IsRunning old → KeepsCommit (inside old) (inside new)
    pub running : IsTrue is_done → IsFaithful new → IsRunning old → IsRunning new
    pub done : IsTrue is_done → IsFaithful new → (t : Tables) → given t → Sees t old → Sees (change t) new

  -- a call that is done found the connection open
  abbrev pub FoundOpen : Bool → Transaction S → Transaction S → Type 0
  FoundOpen is_done old new = IsTrue is_done → IsFaithful new → IsRunning old → IsTrue (inside old).is_open

  -- the same of any tables
  abbrev pub Writes : Bool → (Tables → Tables) → Transaction S → Transaction S → Type 0
  Writes is_done change old new = WritesIf is_done (λ _. ⊤) change old new

  -- a call that asks
  abbrev pub Asks : Bool → Transaction S → Transaction S → Type 0
  Asks answered old new = Writes answered (λ t. t) old new

  -- what an answer tells of the tables that the transaction saw before the call
  abbrev pub Tells : Transaction S → Transaction S → (Tables → Type 0) → Type 0
  Tells old new P = IsFaithful new → (t : Tables) → Sees t old → P t

  -- a statement was run, or failed
  pub record Ran (text : List ℕ) (params : Row) (is_done : Bool) (old new : Transaction S) : Type 0 where
    pub same_reference : new.conn.ghost_name ≡ old.conn.ghost_name
    pub survives : Survives (inside old) (inside new) (λ _. ⊥)
    pub ran : IsFaithful new → IsRunning old → (result : Result ℕ Error) × (is_done ≡ is_ok result) × ExecutesInside 0 text params (inside old) (inside new) result

-- over a connection that was shut it commits nothing
abbrev pub CommitsUnlessShut : {S : Type 0} → Ghosts S → Held S → Held S → Type 0
CommitsUnlessShut g old new = HasCleanDisk (state g new) → KeepsIfShut (state g old) (state g new)
