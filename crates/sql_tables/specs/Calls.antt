-- What a call outside a transaction leaves of a connection, whatever it answers.
use Rattle.std.specs.Prelude.{◌≡◌, ◌≤◌, ◌⊎◌, Bool, false, IsTrue}
use Rattle.sqlite_disk.specs.Disk.{MoreFaults}
use Rattle.sqlite_trees.specs.Tree.{Trees}
use Rattle.sqlite_schema.specs.declared.schema.Schema.{Schema}
use Rattle.sqlite.specs.State.{State, HasCleanDisk}
use Rattle.sql_tables.specs.States.{Rests, LeavesOnly}

-- between calls, in tables of a schema, whatever stands in them
pub record IsSettled (schema : Schema) (s : State) : Type 0 where
  pub schema_is : s.now.schema ≡ schema
  pub settled : s.committed ≡ s.now
  pub autocommit : s.in_transaction ≡ false

-- the tables, the last commit and the mode are as they were
pub record IsAsBefore (old new : State) : Type 0 where
  pub now_is : new.now ≡ old.now
  pub committed_is : new.committed ≡ old.committed
  pub autocommit : new.in_transaction ≡ false

-- no fault of the disk is forgotten, and only a fault shuts the connection; no call opens it, and a call that is answered leaves it open
pub record Stays (answered : Bool) (old new : State) : Type 0 where
  pub was_clean : HasCleanDisk old
  pub counts : old.faults ≤ new.faults
  pub closes : IsTrue old.is_open → IsTrue new.is_open ⊎ MoreFaults old.faults new.faults
  pub was_open : IsTrue new.is_open → IsTrue old.is_open
  pub is_open : IsTrue answered → IsTrue new.is_open

-- a call that asks: it changes nothing, and commits nothing, be the connection open or not
pub record Asked (schema : Schema) (answered : Bool) (old new : State) : Type 0 where
  pub stays : Stays answered old new
  pub same : IsTrue answered → old.now.schema ≡ schema → new.now ≡ old.now
  pub kept : IsSettled schema old → IsTrue new.is_open → IsAsBefore old new
  pub crash : LeavesOnly old new (λ _. ⊥)

-- over a connection that was shut nothing more is committed: a crash leaves what it could leave before
abbrev pub KeepsIfShut : State → State → Type 0
KeepsIfShut old new = (IsTrue old.is_open → ⊥) → LeavesOnly old new (λ _. ⊥)

-- a call that changes tables, by one commit at its end: each meaning that they had becomes what is said of it afterwards; where it is not done, all is as before; a crash leaves what it could leave before, or tables with the change
pub record Changed (schema : Schema) {M : Type 0} (Before After : M → Trees → Type 0) (answered is_done : Bool) (old new : State) : Type 0 where
  pub stays : Stays answered old new
  pub done : IsTrue is_done → (m : M) → Rests schema (Before m) old → Rests schema (After m) new
  pub kept : is_done ≡ false → IsSettled schema old → IsTrue new.is_open → IsAsBefore old new
  pub crash : (m : M) → Rests schema (Before m) old → LeavesOnly old new (After m)
