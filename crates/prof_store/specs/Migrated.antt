-- What a migration leaves of a connection.
use Rattle.std.specs.Prelude.{◌≡◌, Bool, false, IsTrue}
use Rattle.sqlite.specs.State.{State}
use Rattle.sql_tables.specs.Calls.{Stays, IsSettled, IsAsBefore, KeepsIfShut}
use Rattle.sql_tables.specs.States.{Rests, LeavesOnly}
use Rattle.prof_store.specs.First.{HoldsFirst}
use Rattle.prof_store.specs.Schema.{schema_one, schema_two}
use Rattle.plain_tables.specs.Tables.{Tables}
use Rattle.prof_store.specs.Tables.{Holds}

-- a call that makes of the tables of version 1 those of version 2, with the same lines, by one commit at its end; where that is not done, all is as before; a crash leaves what it could leave before, or the tables of version 2; where the connection was shut it leaves what it could leave before alone
pub record Migrates (is_done : Bool) (old new : State) : Type 0 where
  pub stays : Stays is_done old new
  pub moved : IsTrue is_done → (t : Tables) → Rests schema_one (HoldsFirst t) old → Rests schema_two (Holds t) new
  pub kept : is_done ≡ false → IsSettled old.now.schema old → IsTrue new.is_open → IsAsBefore old new
  pub shut : KeepsIfShut old new
  pub crash : (t : Tables) → Rests schema_one (HoldsFirst t) old → LeavesOnly old new (Holds t)
