-- What the tables of version 1 hold: the same lines, whose cells have no thread.
use Rattle.std.specs.Prelude.{◌≡◌, ◌<◌, ℕ, List, [], ◌∷◌, map}
use Rattle.std.specs.List.{AllByRecursion}
use Rattle.sqlite_value.specs.declared.value.Value.TheVariants.{Null}
use Rattle.sqlite_value.specs.Order.{Row}
use Rattle.sqlite_trees.specs.Tree.{Trees}
use Rattle.sql_tables.specs.Contents.{Contain}
use Rattle.prof_store.specs.Schema.{schema_one}
use Rattle.plain_tables.specs.Tables.{Tables, StoredCell, RunRow}
use Rattle.prof_store.specs.Tables.{number, run_columns, event_columns, derived_columns, coef_columns, name_columns, arc_columns, stack_columns, group_columns, member_columns}

abbrev pub first_meta_columns : ℕ → Row
first_meta_columns next = number 1 ∷ Null ∷ number 1 ∷ number next ∷ []

abbrev pub first_cell_columns : StoredCell → Row
first_cell_columns c = number c.run ∷ number c.object ∷ number c.file ∷ number c.function ∷ number c.line ∷ number c.event ∷ number c.cost ∷ []

-- the contents of the tables of schema 1, in its order
abbrev pub first_contents_of : Tables → List (List Row)
first_contents_of t =
    (first_meta_columns t.next ∷ []) ∷ map run_columns t.runs ∷ map event_columns t.events ∷ map derived_columns t.derived ∷ map coef_columns t.coefs ∷ map name_columns t.names
    ∷ map first_cell_columns t.cells ∷ map arc_columns t.calls ∷ map stack_columns t.stacks ∷ map group_columns t.groups ∷ map member_columns t.members ∷ []

abbrev pub IsOfThreadZero : StoredCell → Type 0
IsOfThreadZero c = c.thread ≡ 0

-- a database of version 1 has these tables, all cells under thread 0, and each run's number is below the next
pub record HoldsFirst (t : Tables) (db : Trees) : Type 0 where
  pub contain : Contain schema_one (first_contents_of t) db
  pub of_zero : AllByRecursion IsOfThreadZero t.cells
  pub below : AllByRecursion (λ (r : RunRow). r.number < t.next) t.runs
