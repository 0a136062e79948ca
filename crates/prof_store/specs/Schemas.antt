-- The version that a database says it is of, and what opening makes of it.
use Rattle.std.specs.Prelude.{◌≡◌, ◌≢◌, ◌↔◌, pos, [], Ok, Err, Result, IfErr, Bool, false, IsTrue}
use Rattle.std.specs.Result.{is_ok}
use Rattle.sqlite_value.specs.declared.value.Value.TheVariants.{Int}
use Rattle.sqlite_value.specs.Order.{Row, column}
use Rattle.sqlite_trees.specs.declared.store.Store.{Ghosts}
use Rattle.sqlite_rules.specs.Lists.{Has}
use Rattle.sqlite.specs.declared.error.Error.{Error}
use Rattle.sqlite.specs.declared.error.Error.TheVariants.{SqlInputError, QueryReturnedNoRows}
use Rattle.sqlite.specs.Effect.{Database}
use Rattle.sqlite.specs.Held.{Held, state}
use Rattle.sqlite.specs.State.{State, QueriesRow}
use Rattle.sql_tables.specs.Calls.{Asked, IsAsBefore, IsSettled, KeepsIfShut, Stays}
use Rattle.sql_tables.specs.States.{LeavesOnly, Rests}
use Rattle.prof_store.specs.declared.errors.OpenError.{OpenError}
use Rattle.prof_store.specs.declared.errors.OpenError.TheVariants as ends
use Rattle.prof_store.specs.Errors.{error_for, opening}
use Rattle.prof_store.specs.First.{HoldsFirst}
use Rattle.prof_store.specs.Schema.{schema_one, schema_two}
use Rattle.plain_tables.specs.Tables.{Tables}
use Rattle.prof_store.specs.Tables.{Holds}
use Rattle.prof_store.specs.Texts.{schema_sql}
use Rattle.prof_store.specs.Migrated.{Migrates}
use Rattle.prof_store.specs.declared.open.Version.{Version}
use Rattle.prof_store.specs.declared.open.Version.TheVariants as versions

-- a store of version 2 stands between calls: its tables hold some lines
abbrev pub IsStore : State → Type 0
IsStore s = (t : Tables) × Rests schema_two (Holds t) s

-- and one of version 1
abbrev pub IsFirstStore : State → Type 0
IsFirstStore s = (t : Tables) × Rests schema_one (HoldsFirst t) s

-- what a failure of the query for it is: where there is no such table, or no row, another schema
abbrev pub failed_opening : Error → OpenError
failed_opening (SqlInputError fault) = ends.WrongSchema
failed_opening QueryReturnedNoRows = ends.WrongSchema
failed_opening error = opening (error_for error)

-- what the answer to the query says: 1 and 2 are the numbers of versions, and each other value is another schema
abbrev pub SaysVersion : Result Row Error → Result Version OpenError → Type 0
SaysVersion (Ok row) version =
    ((version ≡ Ok versions.First) ↔ (column row 0 ≡ Int (pos 1))) × ((version ≡ Ok versions.Second) ↔ (column row 0 ≡ Int (pos 2))) × IfErr version (λ end. end ≡ ends.WrongSchema)
SaysVersion (Err error) version = version ≡ Err (failed_opening error)

-- a database of any schema was asked for its version, and nothing was changed
pub record IsAskedFor (version : Result Version OpenError) (old new : State) : Type 0 where
  pub answer : Result Row Error
  pub shown : QueriesRow schema_sql [] old new answer
  pub says : SaysVersion answer version
  pub asked : Asked old.now.schema (is_ok version) old new

module _ {S : Type 0} (g : Ghosts S) where
  -- what comes of the answer: the tables of version 1 become those of version 2, which are taken up as they are, and another schema is refused
  abbrev pub OpensAs : Result Version OpenError → Held S → Held S → Result Unit OpenError → Type 0
  OpensAs (Ok versions.First) old new result = Migrates (is_ok result) (state g old) (state g new) × IfErr result (λ end. end ≢ ends.WrongSchema)
  OpensAs (Ok versions.Second) old new result = (new ≡ old) × (result ≡ Ok tt)
  OpensAs (Err end) old new result = (new ≡ old) × (result ≡ Err end)

  -- a database of any schema was asked for its version, and so opened or refused
  pub record IsOpenedBy (old new : Held S) (result : Result Unit OpenError) : Type 0 where
    pub mid : Held S
    pub version : Result Version OpenError
    pub asked : IsAskedFor version (state g old) (state g mid)
    pub opens : OpensAs version mid new result

-- tables of schema 2 whose rows say so
pub record SaysSecond (now : Database) : Type 0 where
  pub schema_is : now.schema ≡ schema_two
  pub says : (r : Row) → Has (now.trees 0) r → column r 2 ≡ Int (pos 2)

-- what opening leaves: one of schema 2 is only asked; one of version 1 has the same lines in version 2, and a crash leaves what it could leave before, or these; refused, all is as before; where the connection was shut a crash leaves what it could leave before alone
pub record Opened (is_done : Bool) (old new : State) : Type 0 where
  pub stays : Stays is_done old new
  pub second : SaysSecond old.now → Asked schema_two is_done old new
  pub first : IsTrue is_done → (t : Tables) → Rests schema_one (HoldsFirst t) old → Rests schema_two (Holds t) new
  pub first_crash : (t : Tables) → Rests schema_one (HoldsFirst t) old → LeavesOnly old new (Holds t)
  pub kept : is_done ≡ false → IsSettled old.now.schema old → IsTrue new.is_open → IsAsBefore old new
  pub shut : KeepsIfShut old new
