-- What a connection shows between calls and within a transaction, and what a crash may leave.
use Rattle.std.specs.Prelude.{◌≡◌, ◌⊎◌, false, IsTrue, []}
use Rattle.std.specs.List.{AllByRecursion}
use Rattle.sqlite_trees.specs.Tree.{Trees}
use Rattle.sqlite_schema.specs.declared.schema.Schema.{Schema}
use Rattle.sqlite.specs.State.{State}

-- between calls P holds of the tables, and of the last commit
pub record Rests (schema : Schema) (P : Trees → Type 0) (s : State) : Type 0 where
  pub schema_is : s.now.schema ≡ schema
  pub holds : P s.now.trees
  pub settled : s.committed ≡ s.now
  pub autocommit : s.in_transaction ≡ false
  pub usable : IsTrue s.is_open

-- within a transaction P holds of the tables
pub record Works (schema : Schema) (P : Trees → Type 0) (s : State) : Type 0 where
  pub schema_is : s.now.schema ≡ schema
  pub holds : P s.now.trees
  pub running : IsTrue s.in_transaction

-- the last commit is as it was, while the connection is open, which it was before
abbrev pub KeepsCommit : State → State → Type 0
KeepsCommit old new = IsTrue new.is_open → IsTrue old.is_open × (new.committed ≡ old.committed)

-- a crash leaves what it could leave before, or tables that P holds of
abbrev pub LeavesOnly : State → State → (Trees → Type 0) → Type 0
LeavesOnly old new P = (db : Trees) → new.may_leave db → old.may_leave db ⊎ P db

-- a crash now leaves tables that P holds of
abbrev pub LeavesJust : State → (Trees → Type 0) → Type 0
LeavesJust s P = (db : Trees) → s.may_leave db → P db

-- a database with no table, outside a transaction
pub record IsBlank (empty : Schema) (s : State) : Type 0 where
  pub schema_is : s.now.schema ≡ empty
  pub settled : s.committed ≡ s.now
  pub autocommit : s.in_transaction ≡ false

-- within a transaction the tables of the schema have no row
pub record Begins (schema : Schema) (s : State) : Type 0 where
  pub schema_is : s.now.schema ≡ schema
  pub empty : AllByRecursion (λ t. s.now.trees t.tree ≡ []) schema.tables
  pub running : IsTrue s.in_transaction
