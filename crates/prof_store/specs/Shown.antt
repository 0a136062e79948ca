-- What a store shows, in the words of the layers above.
use Rattle.sqlite_trees.specs.declared.store.Store.{Ghosts}
use Rattle.sqlite_trees.specs.Tree.{Trees}
use Rattle.sqlite.specs.Held.{state}
use Rattle.sqlite.specs.State.{HasCleanDisk, State}
use Rattle.sql_tables.specs.States.{Rests, LeavesJust as Just}
use Rattle.prof_store.specs.Schema.{schema_two}
use Rattle.plain_tables.specs.Tables.{Tables}
use Rattle.prof_store.specs.Tables.{Holds}
use Rattle.prof_store.specs.declared.store.Store.{Store}

module _ {S : Type 0} (g : Ghosts S) where
  abbrev pub shown : Store S → State
  shown store = state g store.conn

  -- so far the disk has returned what was written
  abbrev pub IsFaithful : Store S → Type 0
  IsFaithful store = HasCleanDisk (shown store)

  -- between calls the tables hold these lines, and so does the last commit
  abbrev pub Represents : Tables → Store S → Type 0
  Represents t store = Rests schema_two (Holds t) (shown store)

  -- a crash now leaves tables that P holds of
  abbrev pub LeavesJust : Store S → (Trees → Type 0) → Type 0
  LeavesJust store P = Just (shown store) P
