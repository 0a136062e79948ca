-- What comes of a database in which a store is wanted.
use Rattle.std.specs.Prelude.{◌≡◌, ◌↔◌, pos, [], Bool, true, false, Result, MatchResult, IfErr, IsTrue, Ok, Err}
use Rattle.sqlite_disk.specs.declared.Disk as disk
use Rattle.sqlite_disk.specs.declared.Files.{Files}
use Rattle.sqlite_trees.specs.declared.store.Store.{Ghosts}
use Rattle.sqlite_store.specs.declared.store.FileStore.{FileStore}
use Rattle.sqlite_value.specs.declared.value.Value.TheVariants.{Int}
use Rattle.sqlite_value.specs.Order.{Row, column}
use Rattle.sqlite.specs.declared.error.Error.{Error}
use Rattle.sqlite.specs.Files.{Finds, file_state, over_files}
use Rattle.sqlite.specs.Held.{Held, state}
use Rattle.sqlite.specs.State.{State, HasCleanDisk, QueriesRow}
use Rattle.prof_store.specs.Schema.{empty_schema}
use Rattle.prof_store.specs.Created.{Creates}
use Rattle.prof_store.specs.Texts.{schema_sql}
use Rattle.prof_store.specs.Schemas.{IsOpenedBy, Opened, failed_opening}
use Rattle.prof_store.specs.declared.errors.OpenError.{OpenError}
use Rattle.prof_store.specs.declared.errors.OpenError.TheVariants as ends

-- a new store is made, or the one of the database is found, and left as it was or brought up to version 2
abbrev pub TakesUp : {S : Type 0} → Ghosts S → Bool → Held S → Held S → Type 0
TakesUp g true old new = Creates true (state g old) (state g new)
TakesUp g false old new = IsOpenedBy g old new (Ok tt) × Opened true (state g old) (state g new)

-- nothing is made: a wrong schema says that there are tables; or the database is left as it was, and refused for what it answered
abbrev pub Refuses : {S : Type 0} → Ghosts S → Bool → OpenError → Held S → Held S → Type 0
Refuses g true end old new = Creates false (state g old) (state g new) × ((end ≡ ends.WrongSchema) ↔ (¬ ((state g old).now.schema ≡ empty_schema)))
Refuses g false end old new = IsOpenedBy g old new (Err end) × Opened false (state g old) (state g new)

-- a store stands in a database, made or found; or there was none to be had, and all is as it was
abbrev pub IsReadyIn : {S T : Type 0} → Ghosts S → Bool → Result T OpenError → Held S → Held S → Type 0
IsReadyIn g is_new result old new = MatchResult result (λ _. TakesUp g is_new old new) (λ end. Refuses g is_new end old new)

-- what the answer to the query for the number of the schema says: whether it is that of version 1; each value but 1 and 2 is another schema
abbrev pub SaysFirst : Result Row Error → Result Bool OpenError → Type 0
SaysFirst (Ok row) found =
    ((found ≡ Ok true) ↔ (column row 0 ≡ Int (pos 1))) × ((found ≡ Ok false) ↔ (column row 0 ≡ Int (pos 2))) × IfErr found (λ end. end ≡ ends.WrongSchema)
SaysFirst (Err error) found = found ≡ Err (failed_opening error)

-- a database of any schema was asked for its version, and this is what the answer says
abbrev pub AsksForFirst : State → State → Result Bool OpenError → Type 0
AsksForFirst old new found = (answer : Result Row Error) × QueriesRow schema_sql [] old new answer × SaysFirst answer found

-- the answer to the query for the number of the schema says whether a database is a store of version 1; where it is, it was brought up to version 2
pub record IsBroughtUp {S : Type 0} (g : Ghosts S) (old : Held S) (is_first : Bool) : Type 0 where
  pub asked : Held S
  pub new : Held S
  pub asks : HasCleanDisk (state g asked) → AsksForFirst (state g old) (state g asked) (Ok is_first)
  pub brought_up : IsTrue is_first → HasCleanDisk (state g new) → TakesUp g false asked new

-- SQL opened the database in files, which is a store of version 1 or not
pub record IsFirstBySql {D : Type 0} (g : disk.Ghosts D) (files : Files D) (is_first : Bool) : Type 0 where
  pub old : Held (FileStore D g)
  pub finds : HasCleanDisk (file_state old) → Finds files old
  pub brought_up : IsBroughtUp over_files old is_first
