-- The rows of the tables, beside the lines that they hold.
use Rattle.std.specs.Prelude.{ℕ, ◌<◌, pos, List, [], ◌∷◌, map, Option, Some, None}
use Rattle.std.specs.List.{AllByRecursion}
use Rattle.sqlite_value.specs.declared.value.Value.{Value}
use Rattle.sqlite_value.specs.declared.value.Value.TheVariants.{Null, Int, Text, Blob}
use Rattle.sqlite_value.specs.Order.{Row}
use Rattle.sqlite_trees.specs.Tree.{Trees}
use Rattle.sql_tables.specs.Contents.{Contain}
use Rattle.prof_store.specs.Schema.{schema_two}
use Rattle.plain_tables.specs.Tables.{Tables, RunRow, EventRow, DerivedRow, CoefRow, NameRow, StoredCell, StoredCall, StoredStack, GroupRow, MemberRow}

-- ---- the rows; a key that is the rowid stands before the others, and leaves its own column empty

abbrev pub number : ℕ → Value
number n = Int (pos n)

abbrev pub number_or_null : Option ℕ → Value
number_or_null None = Null
number_or_null (Some n) = number n

abbrev pub text_or_null : Option (List ℕ) → Value
text_or_null None = Null
text_or_null (Some text) = Text text

abbrev pub meta_columns : ℕ → Row
meta_columns next = number 1 ∷ Null ∷ number 2 ∷ number next ∷ []

abbrev pub run_columns : RunRow → Row
run_columns r = number r.number ∷ Null ∷ number r.kind ∷ Blob r.digest ∷ Text r.label ∷ number r.call_count ∷ []

abbrev pub event_columns : EventRow → Row
event_columns e = number e.run ∷ number e.place ∷ Blob e.name ∷ number e.self_cost ∷ number e.call_cost ∷ text_or_null e.stated ∷ []

abbrev pub derived_columns : DerivedRow → Row
derived_columns d = number d.run ∷ number d.place ∷ Blob d.name ∷ []

abbrev pub coef_columns : CoefRow → Row
coef_columns c = number c.run ∷ number c.place ∷ number c.event ∷ number c.times ∷ []

abbrev pub name_columns : NameRow → Row
name_columns n = number n.number ∷ Null ∷ Blob n.name ∷ []

abbrev pub cell_columns : StoredCell → Row
cell_columns c = number c.run ∷ number c.thread ∷ number c.object ∷ number c.file ∷ number c.function ∷ number c.line ∷ number c.event ∷ number c.cost ∷ []

abbrev pub arc_columns : StoredCall → Row
arc_columns a =
    number a.run ∷ number a.object ∷ number a.file ∷ number a.function ∷ number a.line ∷ number a.called_object ∷ number a.called_file ∷ number a.called_function ∷ number a.part ∷ number a.sum ∷ []

abbrev pub stack_columns : StoredStack → Row
stack_columns s = number s.run ∷ Blob s.frames ∷ number s.count ∷ []

abbrev pub group_columns : GroupRow → Row
group_columns g = Text g.name ∷ number_or_null g.baseline ∷ []

abbrev pub member_columns : MemberRow → Row
member_columns m = Text m.group ∷ number m.run ∷ []

-- the contents of the tables of schema 2, in its order
abbrev pub contents_of : Tables → List (List Row)
contents_of t =
    (meta_columns t.next ∷ []) ∷ map run_columns t.runs ∷ map event_columns t.events ∷ map derived_columns t.derived ∷ map coef_columns t.coefs ∷ map name_columns t.names
    ∷ map arc_columns t.calls ∷ map stack_columns t.stacks ∷ map group_columns t.groups ∷ map member_columns t.members ∷ map cell_columns t.cells ∷ []

-- the database has these tables, and each run's number is below the next
pub record Holds (t : Tables) (db : Trees) : Type 0 where
  pub contain : Contain schema_two (contents_of t) db
  pub below : AllByRecursion (λ (r : RunRow). r.number < t.next) t.runs
