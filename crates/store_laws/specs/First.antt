-- A store of version 1, and the history that its tables represent.
use Rattle.std.specs.Prelude.{◌⊎◌}
use Rattle.sqlite.specs.State.{State}
use Rattle.sqlite_trees.specs.Tree.{Trees}
use Rattle.sql_tables.specs.States.{Rests}
use Rattle.callgrind_reader.specs.Grammars.{First}
use Rattle.prof_store.specs.First.{HoldsFirst}
use Rattle.prof_store.specs.Schema.{schema_one, schema_two}
use Rattle.prof_store.specs.Tables.{Holds}
use Rattle.plain_tables.specs.Tables.{Tables}
use Rattle.histories.specs.History.{History}
use Rattle.histories.specs.Marks.{AreBy}
use Rattle.histories.specs.Representation.{TablesRepresent}

-- tables whose lines, as a version holds them, tell a history
pub record AgreesBy (HoldsAs : Tables → Trees → Type 0) (h : History) (db : Trees) : Type 0 where
  pub t : Tables
  pub holds : HoldsAs t db
  pub agrees : TablesRepresent h t

-- between calls tables of version 1 do, and its imports are by the first grammar
pub record RepresentsFirst (h : History) (s : State) : Type 0 where
  pub t : Tables
  pub rests : Rests schema_one (HoldsFirst t) s
  pub agrees : TablesRepresent h t
  pub by_first : AreBy First h

-- between calls tables of version 2 do
pub record RepresentsSecond (h : History) (s : State) : Type 0 where
  pub t : Tables
  pub rests : Rests schema_two (Holds t) s
  pub agrees : TablesRepresent h t

-- tables of either version that represent a history
abbrev pub AgreesEither : History → Trees → Type 0
AgreesEither h db = AgreesBy HoldsFirst h db ⊎ AgreesBy Holds h db
