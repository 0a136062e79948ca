-- Rows beside the lines as which they are read: what a test and a query show of the one and of the other.
use Rattle.std.proofs.Common.{◌≡◌, ℕ, ℤ, pos, negsuc, List, [], ◌∷◌, map, drop, refl, ap}
use Rattle.std.specs.List.{AllZip}
use Rattle.sqlite_value.specs.declared.value.Value.{Value}
use Rattle.sqlite_value.specs.declared.value.Value.TheVariants.{Null, Int, Real, Text, Blob}
use Rattle.sqlite_value.specs.Order.{Row, column}
use Rattle.sqlite_trees.specs.Tree.{Trees}
use Rattle.sqlite_schema.specs.declared.schema.Table.{Table}
use Rattle.prof_store.specs.Schema.{meta_at, run_at, run_event_at, derived_at, coef_at, name_at, thread_cell_at, arc_at, stack_at, grp_at, member_at}
use Rattle.plain_tables.specs.Tables.{Tables, NameRow}
use Rattle.prof_store.specs.Names.{SaysName, SayNames, number_read}
use Rattle.prof_store.specs.Tables.{number, meta_columns, run_columns, event_columns, derived_columns, coef_columns, name_columns, cell_columns, arc_columns, stack_columns, group_columns, member_columns}
use Rattle.prof_store.specs.Readings.{as_read, row_read, IsSaidBy, Says, SaysBehind}

-- ---- rows

-- what a query shows of a row, so read
abbrev pub values_read : (ℕ → ℕ) → Row → Row
values_read far r = map (as_read far) r

-- ---- rows and lines, one beside another

all_say : {X : Type 0} (far : ℕ → ℕ) (table : Table) (columns : X → Row) (rows : List Row) (xs : List X) → map (row_read far table) rows ≡ map columns xs → AllZip (Says far table columns) rows xs
all_say far table columns [] [] h = tt
all_say far table columns [] (x ∷ xs) h = absurd cc
all_say far table columns (r ∷ rows) [] h = absurd cc
all_say far table columns (r ∷ rows) (x ∷ xs) h =
    let first : row_read far table r ≡ columns x = cc in
    let rest : map (row_read far table) rows ≡ map columns xs = cc in
    (first, all_say far table columns rows xs rest)

all_say_behind : {X : Type 0} (far : ℕ → ℕ) (table : Table) (columns : X → Row) (rows : List Row) (xs : List X) → map (drop 1) (map (row_read far table) rows) ≡ map columns xs → AllZip (SaysBehind far table columns) rows xs
all_say_behind far table columns [] [] h = tt
all_say_behind far table columns [] (x ∷ xs) h = absurd cc
all_say_behind far table columns (r ∷ rows) [] h = absurd cc
all_say_behind far table columns (r ∷ rows) (x ∷ xs) h =
    let first : drop 1 (row_read far table r) ≡ columns x = cc in
    let rest : map (drop 1) (map (row_read far table) rows) ≡ map columns xs = cc in
    ((as_read far (column r 0), ap (λ l. as_read far (column r 0) ∷ l) first), all_say_behind far table columns rows xs rest)

-- ---- names

blob_read : (far : ℕ → ℕ) (v : Value) (b : List ℕ) → as_read far v ≡ Blob b → v ≡ Blob b
blob_read far Null b is = absurd cc
blob_read far (Int (pos n)) b is = absurd cc
blob_read far (Int (negsuc n)) b is = absurd cc
blob_read far (Real x) b is = absurd cc
blob_read far (Text s) b is = absurd cc
blob_read far (Blob a) b is = is

whole_read : (far : ℕ → ℕ) (v : Value) (n : ℕ) → as_read far v ≡ number n → (id : ℤ) × (v ≡ Int id) × (number_read far id ≡ n)
whole_read far Null n is = absurd cc
whole_read far (Int (pos m)) n is = (pos m, refl, cc)
whole_read far (Int (negsuc m)) n is = (negsuc m, refl, cc)
whole_read far (Real x) n is = absurd cc
whole_read far (Text s) n is = absurd cc
whole_read far (Blob b) n is = absurd cc

says_name : (far : ℕ → ℕ) (r : Row) (line : NameRow) → row_read far name_at r ≡ name_columns line → SaysName far r line
says_name far r line is =
    let numbered : as_read far (column r 0) ≡ number line.number = cc in
    let named : as_read far (column r 2) ≡ Blob line.name = cc in
    let (id, has_id, number_is) = whole_read far (column r 0) line.number numbered in
    record { id = id; has_id = has_id; number_is = number_is; has_bytes = blob_read far (column r 2) line.name named }

all_named : (far : ℕ → ℕ) (rows : List Row) (names : List NameRow) → map (row_read far name_at) rows ≡ map name_columns names → AllZip (SaysName far) rows names
all_named far [] [] h = tt
all_named far [] (line ∷ names) h = absurd cc
all_named far (r ∷ rows) [] h = absurd cc
all_named far (r ∷ rows) (line ∷ names) h =
    let first : row_read far name_at r ≡ name_columns line = cc in
    let rest : map (row_read far name_at) rows ≡ map name_columns names = cc in
    (says_name far r line first, all_named far rows names rest)

-- ---- each table

module _ (t : Tables) (db : Trees) (was : IsSaidBy t db) where
  pub meta_said : map (row_read was.far meta_at) (db 0) ≡ meta_columns t.next ∷ []
  meta_said = was.contents_are.0.rows_are

  pub runs_said : AllZip (Says was.far run_at run_columns) (db 1) t.runs
  runs_said = all_say was.far run_at run_columns (db 1) t.runs was.contents_are.1.0.rows_are

  pub event_entries : AllZip (SaysBehind was.far run_event_at event_columns) (db 3) t.events
  event_entries = all_say_behind was.far run_event_at event_columns (db 3) t.events was.contents_are.1.1.0.rows_are

  pub derived_entries : AllZip (SaysBehind was.far derived_at derived_columns) (db 6) t.derived
  derived_entries = all_say_behind was.far derived_at derived_columns (db 6) t.derived was.contents_are.1.1.1.0.rows_are

  pub coef_entries : AllZip (SaysBehind was.far coef_at coef_columns) (db 9) t.coefs
  coef_entries = all_say_behind was.far coef_at coef_columns (db 9) t.coefs was.contents_are.1.1.1.1.0.rows_are

  pub names_said : SayNames (db 11) t.names
  names_said = record { far = was.far; is_far = was.is_far; said = all_named was.far (db 11) t.names was.contents_are.1.1.1.1.1.0.rows_are }

  pub cells_said : AllZip (SaysBehind was.far thread_cell_at cell_columns) (db 23) t.cells
  cells_said = all_say_behind was.far thread_cell_at cell_columns (db 23) t.cells was.contents_are.1.1.1.1.1.1.1.1.1.1.0.rows_are

  pub calls_said : AllZip (SaysBehind was.far arc_at arc_columns) (db 15) t.calls
  calls_said = all_say_behind was.far arc_at arc_columns (db 15) t.calls was.contents_are.1.1.1.1.1.1.0.rows_are

  pub stacks_said : AllZip (SaysBehind was.far stack_at stack_columns) (db 17) t.stacks
  stacks_said = all_say_behind was.far stack_at stack_columns (db 17) t.stacks was.contents_are.1.1.1.1.1.1.1.0.rows_are

  pub groups_said : AllZip (SaysBehind was.far grp_at group_columns) (db 19) t.groups
  groups_said = all_say_behind was.far grp_at group_columns (db 19) t.groups was.contents_are.1.1.1.1.1.1.1.1.0.rows_are

  pub members_said : AllZip (SaysBehind was.far member_at member_columns) (db 21) t.members
  members_said = all_say_behind was.far member_at member_columns (db 21) t.members was.contents_are.1.1.1.1.1.1.1.1.1.0.rows_are
