-- What making a new store leaves of a connection.
use Rattle.std.specs.Prelude.{◌≡◌, Bool, false, IsTrue}
use Rattle.sqlite.specs.State.{State}
use Rattle.sql_tables.specs.Calls.{Stays, IsSettled, IsAsBefore, KeepsIfShut}
use Rattle.sql_tables.specs.States.{Rests, LeavesOnly, IsBlank}
use Rattle.prof_store.specs.Schema.{empty_schema, schema_two}
use Rattle.plain_tables.specs.Tables.{new_tables}
use Rattle.prof_store.specs.Tables.{Holds}

-- nothing is changed and nothing is committed, so the last commit stands, while the connection is open
pub record IsUndone (old new : State) : Type 0 where
  pub was_open : IsTrue new.is_open → IsTrue old.is_open
  pub now_is : IsTrue new.is_open → new.now ≡ old.committed
  pub committed_is : IsTrue new.is_open → new.committed ≡ old.committed
  pub autocommit : new.in_transaction ≡ false

-- a call that makes the tables of schema 2, by one commit at its end, where a database has no table; where that is not done, all is as before; a crash leaves what it could leave before, or the new tables; where the connection was shut it leaves what it could leave before alone
pub record Creates (is_done : Bool) (old new : State) : Type 0 where
  pub stays : Stays is_done old new
  pub was_blank : IsTrue is_done → IsBlank empty_schema old
  pub made : IsTrue is_done → Rests schema_two (Holds new_tables) new
  pub kept : is_done ≡ false → IsSettled old.now.schema old → IsTrue new.is_open → IsAsBefore old new
  pub shut : KeepsIfShut old new
  pub crash : IsTrue old.is_open → LeavesOnly old new (λ db. IsBlank empty_schema old × Holds new_tables db)
