-- The rows of each sound database of schema 2 say lines.
use Rattle.std.proofs.Common.{◌≡◌, ℕ, zero, suc, ◌+◌, ◌≤◌, ◌^◌, ◌||◌, ◌&&◌, not, pos, negsuc, List, [], ◌∷◌, map, drop, Bool, true, false, if◌then◌else◌, Option, Some, None, slice_get, codes, refl, ap, ap₂, subst, ◌∙◌, arith}
use Rattle.std.specs.List.{AllByRecursion}
use Rattle.std.proofs.lemmas.Bool.{and_parts}
use Rattle.sqlite_value.specs.declared.value.Value.{Value}
use Rattle.sqlite_value.specs.declared.value.Value.TheVariants.{Null, Int, Real, Text, Blob}
use Rattle.sqlite_value.specs.Order.{Row, column, bytes}
use Rattle.sqlite_trees.specs.Tree.{Trees, rowid}
use Rattle.sqlite_trees.specs.View.{is_int}
use Rattle.sqlite_catalog.specs.Listing.{IsSound}
use Rattle.sqlite_sql.specs.Ops.{is_null}
use Rattle.sqlite_schema.specs.Names.{is_key}
use Rattle.sqlite_schema.specs.Rules.{are_present, are_typed, has_affinity, has_computed, is_of}
use Rattle.sqlite_schema.specs.declared.schema.Column.{Column}
use Rattle.sqlite_schema.specs.declared.schema.Constraint.TheVariants.{Datatype, NotNull}
use Rattle.sqlite_schema.specs.declared.schema.Kind.TheVariants as kind
use Rattle.sqlite_schema.specs.declared.schema.Table.{Table}
use Rattle.sqlite_keyed.proofs.ListLemmas.{map-map}
use Rattle.prof_store.specs.Schema.{column_of, schema_two, meta_at, run_at, run_event_at, derived_at, coef_at, name_at, thread_cell_at, arc_at, stack_at, grp_at, member_at}
use Rattle.plain_tables.specs.Tables.{Tables, RunRow, EventRow, DerivedRow, CoefRow, NameRow, StoredCell, StoredCall, StoredStack, GroupRow, MemberRow}
use Rattle.prof_store.specs.Tables.{meta_columns, run_columns, event_columns, derived_columns, coef_columns, name_columns, cell_columns, arc_columns, stack_columns, group_columns, member_columns, number, number_or_null, text_or_null}
use Rattle.prof_store.specs.Readings.{as_read, row_read, AreShaped, HasMeta, RowsSay}

-- ---- what the schema says of a column

column_behind : (r : Row) (i : ℕ) → column (drop 1 r) i ≡ column r (suc i)
column_behind [] zero = refl
column_behind [] (suc i) = refl
column_behind (v ∷ r) i = refl

typed : (key : Option ℕ) (at : ℕ) (cs : List Column) (vs : Row) → are_typed key at cs vs ≡ true → (i : ℕ) (c : Column) → slice_get cs i ≡ Some c → is_key key (at + i) ≡ false → c.is_strict ≡ true → is_of c.kind (column vs i) ≡ true
typed key at [] vs all i c there free strict = absurd cc
typed key at (d ∷ cs) [] all zero c there free strict = refl
typed key at (d ∷ cs) [] all (suc i) c there free strict = refl
typed key at (d ∷ cs) (v ∷ vs) all zero c there free strict =
    let same : d ≡ c = cc in
    let here : is_key key at ≡ false = subst (λ n. is_key key n ≡ false) (omega arith) free in
    let suited = (and_parts _ _ all).0 in
    go (is_key key at) here d.is_strict (ap (λ (x : Column). x.is_strict) same ∙ strict) suited same
  where
    go : (k : Bool) → k ≡ false → (s : Bool) → s ≡ true → (if k then is_null v else (if s then is_of d.kind v else has_affinity d.kind v)) ≡ true → d ≡ c → is_of c.kind v ≡ true
    go true none s strict suited same = absurd cc
    go false none false strict suited same = absurd cc
    go false none true strict suited same = subst (λ (x : Column). is_of x.kind v ≡ true) same suited
typed key at (d ∷ cs) (v ∷ vs) all (suc i) c there free strict =
    let more : are_typed key (at + 1) cs vs ≡ true = (and_parts _ _ all).1 in
    typed key (at + 1) cs vs more i c there (subst (λ n. is_key key n ≡ false) (omega arith) free) strict

present : (key : Option ℕ) (at : ℕ) (cs : List Column) (row : Row) → are_present key at cs row ≡ true → (i : ℕ) (c : Column) → slice_get cs i ≡ Some c → is_key key (at + i) ≡ false → c.not_null ≡ true → is_null (column row (at + i + 1)) ≡ false
present key at [] row all i c there free needed = absurd cc
present key at (d ∷ cs) row all zero c there free needed =
    let same : d ≡ c = cc in
    let here : is_key key at ≡ false = subst (λ n. is_key key n ≡ false) (omega arith) free in
    let first = (and_parts _ _ all).0 in
    subst (λ n. is_null (column row n) ≡ false) (omega arith) (go (is_key key at) here d.not_null (ap (λ (x : Column). x.not_null) same ∙ needed) (is_null (column row (at + 1))) first)
  where
    go : (k : Bool) → k ≡ false → (n : Bool) → n ≡ true → (null : Bool) → ((k || not n) || not null) ≡ true → null ≡ false
    go true none n needed null first = absurd cc
    go false none false needed null first = absurd cc
    go false none true needed true first = absurd cc
    go false none true needed false first = refl
present key at (d ∷ cs) row all (suc i) c there free needed =
    let more : are_present key (at + 1) cs row ≡ true = (and_parts _ _ all).1 in
    subst (λ n. is_null (column row n) ≡ false) (omega arith) (present key (at + 1) cs row more i c there (subst (λ n. is_key key n ≡ false) (omega arith) free) needed)

-- the first column, for which the rowid stands, is empty
key_null : (cs : List Column) (vs : Row) → are_typed (Some 0) 0 cs vs ≡ true → is_null (column vs 0) ≡ true
key_null [] [] all = refl
key_null [] (v ∷ vs) all = absurd cc
key_null (c ∷ cs) [] all = refl
key_null (c ∷ cs) (v ∷ vs) all = (and_parts _ _ all).0

-- ---- what a value is read as

value_of : (ℕ → ℕ) → Value → ℕ
value_of far Null = 0
value_of far (Int (pos n)) = n
value_of far (Int (negsuc n)) = far n
value_of far (Real x) = 0
value_of far (Text t) = 0
value_of far (Blob b) = 0

value_or_none : (ℕ → ℕ) → Value → Option ℕ
value_or_none far Null = None
value_or_none far (Int (pos n)) = Some n
value_or_none far (Int (negsuc n)) = Some (far n)
value_or_none far (Real x) = None
value_or_none far (Text t) = None
value_or_none far (Blob b) = None

text_or_none : Value → Option (List ℕ)
text_or_none Null = None
text_or_none (Int n) = None
text_or_none (Real x) = None
text_or_none (Text t) = Some t
text_or_none (Blob b) = None

module _ (far : ℕ → ℕ) where
  null_read : (v : Value) → is_null v ≡ true → as_read far v ≡ Null
  null_read Null is = refl
  null_read (Int n) is = absurd cc
  null_read (Real x) is = absurd cc
  null_read (Text t) is = absurd cc
  null_read (Blob b) is = absurd cc

  id_read : (v : Value) → is_int v ≡ true → as_read far v ≡ number (value_of far v)
  unfolding value_of
  id_read Null is = absurd cc
  id_read (Int (pos n)) is = refl
  id_read (Int (negsuc n)) is = refl
  id_read (Real x) is = absurd cc
  id_read (Text t) is = absurd cc
  id_read (Blob b) is = absurd cc

  int_read : (v : Value) → is_of kind.Integer v ≡ true → is_null v ≡ false → as_read far v ≡ number (value_of far v)
  unfolding value_of
  int_read Null is some = absurd cc
  int_read (Int (pos n)) is some = refl
  int_read (Int (negsuc n)) is some = refl
  int_read (Real x) is some = absurd cc
  int_read (Text t) is some = absurd cc
  int_read (Blob b) is some = absurd cc

  text_read : (v : Value) → is_of kind.Text v ≡ true → is_null v ≡ false → as_read far v ≡ Text (bytes v)
  text_read Null is some = absurd cc
  text_read (Int n) is some = absurd cc
  text_read (Real x) is some = absurd cc
  text_read (Text t) is some = refl
  text_read (Blob b) is some = absurd cc

  blob_read : (v : Value) → is_of kind.Blob v ≡ true → is_null v ≡ false → as_read far v ≡ Blob (bytes v)
  blob_read Null is some = absurd cc
  blob_read (Int n) is some = absurd cc
  blob_read (Real x) is some = absurd cc
  blob_read (Text t) is some = absurd cc
  blob_read (Blob b) is some = refl

  int_or_null_read : (v : Value) → is_of kind.Integer v ≡ true → as_read far v ≡ number_or_null (value_or_none far v)
  unfolding value_or_none
  int_or_null_read Null is = refl
  int_or_null_read (Int (pos n)) is = refl
  int_or_null_read (Int (negsuc n)) is = refl
  int_or_null_read (Real x) is = absurd cc
  int_or_null_read (Text t) is = absurd cc
  int_or_null_read (Blob b) is = absurd cc

  text_or_null_read : (v : Value) → is_of kind.Text v ≡ true → as_read far v ≡ text_or_null (text_or_none v)
  unfolding text_or_none
  text_or_null_read Null is = refl
  text_or_null_read (Int n) is = absurd cc
  text_or_null_read (Real x) is = absurd cc
  text_or_null_read (Text t) is = refl
  text_or_null_read (Blob b) is = absurd cc

-- ---- the columns of a row

module _ (far : ℕ → ℕ) (key : Option ℕ) (cs : List Column) (r : Row) (are : are_typed key 0 cs (drop 1 r) ≡ true) (there : are_present key 0 cs r ≡ true) where
  of_kind : (i : ℕ) (c : Column) → slice_get cs i ≡ Some c → is_key key i ≡ false → c.is_strict ≡ true → is_of c.kind (column r (suc i)) ≡ true
  of_kind i c at free strict = subst (λ v. is_of c.kind v ≡ true) (column_behind r i) (typed key 0 cs (drop 1 r) are i c at (subst (λ n. is_key key n ≡ false) (omega arith) free) strict)

  not_null_at : (i : ℕ) (c : Column) → slice_get cs i ≡ Some c → is_key key i ≡ false → c.not_null ≡ true → is_null (column r (suc i)) ≡ false
  not_null_at i c at free needed = subst (λ n. is_null (column r n) ≡ false) (omega arith) (present key 0 cs r there i c at (subst (λ n. is_key key n ≡ false) (omega arith) free) needed)

  int_at : (i : ℕ) (name : List ℕ) → slice_get cs i ≡ Some (column_of name kind.Integer true) → is_key key i ≡ false → as_read far (column r (suc i)) ≡ number (value_of far (column r (suc i)))
  int_at i name at free = int_read far (column r (suc i)) (of_kind i (column_of name kind.Integer true) at free refl) (not_null_at i (column_of name kind.Integer true) at free refl)

  text_at : (i : ℕ) (name : List ℕ) → slice_get cs i ≡ Some (column_of name kind.Text true) → is_key key i ≡ false → as_read far (column r (suc i)) ≡ Text (bytes (column r (suc i)))
  text_at i name at free = text_read far (column r (suc i)) (of_kind i (column_of name kind.Text true) at free refl) (not_null_at i (column_of name kind.Text true) at free refl)

  blob_at : (i : ℕ) (name : List ℕ) → slice_get cs i ≡ Some (column_of name kind.Blob true) → is_key key i ≡ false → as_read far (column r (suc i)) ≡ Blob (bytes (column r (suc i)))
  blob_at i name at free = blob_read far (column r (suc i)) (of_kind i (column_of name kind.Blob true) at free refl) (not_null_at i (column_of name kind.Blob true) at free refl)

  int_or_null_at : (i : ℕ) (name : List ℕ) → slice_get cs i ≡ Some (column_of name kind.Integer false) → is_key key i ≡ false → as_read far (column r (suc i)) ≡ number_or_null (value_or_none far (column r (suc i)))
  int_or_null_at i name at free = int_or_null_read far (column r (suc i)) (of_kind i (column_of name kind.Integer false) at free refl)

  text_or_null_at : (i : ℕ) (name : List ℕ) → slice_get cs i ≡ Some (column_of name kind.Text false) → is_key key i ≡ false → as_read far (column r (suc i)) ≡ text_or_null (text_or_none (column r (suc i)))
  text_or_null_at i name at free = text_or_null_read far (column r (suc i)) (of_kind i (column_of name kind.Text false) at free refl)

-- ---- each table

abbrev AreTyped : Table → List Row → Type 0
AreTyped table rows = AllByRecursion (λ r. (are_typed table.key 0 table.columns (drop 1 r) && has_computed table r) ≡ true) rows

abbrev ArePresent : Table → List Row → Type 0
ArePresent table rows = AllByRecursion (λ r. are_present table.key 0 table.columns r ≡ true) rows

abbrev HaveIds : List Row → Type 0
HaveIds rows = AllByRecursion (λ r. is_int (rowid r) ≡ true) rows

-- a way to read one row reads all
each_read : {X : Type 0} (table : Table) (read : Row → Row) (columns : X → Row) (of : Row → X) → ((r : Row) → is_int (rowid r) ≡ true → are_typed table.key 0 table.columns (drop 1 r) ≡ true → are_present table.key 0 table.columns r ≡ true → read r ≡ columns (of r))
    → (rows : List Row) → HaveIds rows → AreTyped table rows → ArePresent table rows → map read rows ≡ map columns (map of rows)
each_read table read columns of one [] ids are there = refl
each_read table read columns of one (r ∷ rows) ids are there = ap₂ {A = Row} ◌∷◌ (one r ids.0 (and_parts _ _ are.0).0 there.0) (each_read table read columns of one rows ids.1 are.1 there.1)

module _ (far : ℕ → ℕ) where
  run_of : Row → RunRow
  run_of r = record { number = value_of far (column r 0); kind = value_of far (column r 2); digest = bytes (column r 3); label = bytes (column r 4); call_count = value_of far (column r 5) }

  run_read : (r : Row) → is_int (rowid r) ≡ true → are_typed run_at.key 0 run_at.columns (drop 1 r) ≡ true → are_present run_at.key 0 run_at.columns r ≡ true → row_read far run_at r ≡ run_columns (run_of r)
  unfolding run_of
  run_read r id are there =
      let key = run_at.key in
      let cs = run_at.columns in
      let empty : as_read far (column r 1) ≡ Null = null_read far (column r 1) (subst (λ v. is_null v ≡ true) (column_behind r 0) (key_null run_at.columns (drop 1 r) are)) in
      ap₂ {A = Value} ◌∷◌ (id_read far (column r 0) id) (ap₂ {A = Value} ◌∷◌ empty (ap₂ {A = Value} ◌∷◌ (int_at far key cs r are there 1 (codes "kind") refl refl) (ap₂ {A = Value} ◌∷◌ (blob_at far key cs r are there 2 (codes "digest") refl refl)
      (ap₂ {A = Value} ◌∷◌ (text_at far key cs r are there 3 (codes "label") refl refl) (ap₂ {A = Value} ◌∷◌ (int_at far key cs r are there 4 (codes "call_count") refl refl) refl)))))

  name_of : Row → NameRow
  name_of r = record { number = value_of far (column r 0); name = bytes (column r 2) }

  name_read : (r : Row) → is_int (rowid r) ≡ true → are_typed name_at.key 0 name_at.columns (drop 1 r) ≡ true → are_present name_at.key 0 name_at.columns r ≡ true → row_read far name_at r ≡ name_columns (name_of r)
  unfolding name_of
  name_read r id are there =
      let empty : as_read far (column r 1) ≡ Null = null_read far (column r 1) (subst (λ v. is_null v ≡ true) (column_behind r 0) (key_null name_at.columns (drop 1 r) are)) in
      ap₂ {A = Value} ◌∷◌ (id_read far (column r 0) id) (ap₂ {A = Value} ◌∷◌ empty (ap₂ {A = Value} ◌∷◌ (blob_at far name_at.key name_at.columns r are there 1 (codes "bytes") refl refl) refl))

  event_of : Row → EventRow
  event_of r = record { run = value_of far (column r 1); place = value_of far (column r 2); name = bytes (column r 3); self_cost = value_of far (column r 4); call_cost = value_of far (column r 5); stated = text_or_none (column r 6) }

  event_read : (r : Row) → is_int (rowid r) ≡ true → are_typed run_event_at.key 0 run_event_at.columns (drop 1 r) ≡ true → are_present run_event_at.key 0 run_event_at.columns r ≡ true → drop 1 (row_read far run_event_at r) ≡ event_columns (event_of r)
  unfolding event_of
  event_read r id are there =
      let key = run_event_at.key in
      let cs = run_event_at.columns in
      ap₂ {A = Value} ◌∷◌ (int_at far key cs r are there 0 (codes "run") refl refl) (ap₂ {A = Value} ◌∷◌ (int_at far key cs r are there 1 (codes "pos") refl refl) (ap₂ {A = Value} ◌∷◌ (blob_at far key cs r are there 2 (codes "name") refl refl) (ap₂ {A = Value} ◌∷◌ (int_at far key cs r are there 3 (codes "self_cost") refl refl) (ap₂ {A = Value} ◌∷◌ (int_at far key cs r are there 4 (codes "call_cost") refl refl) (ap₂ {A = Value} ◌∷◌ (text_or_null_at far key cs r are there 5 (codes "stated") refl refl) refl)))))

  derived_of : Row → DerivedRow
  derived_of r = record { run = value_of far (column r 1); place = value_of far (column r 2); name = bytes (column r 3) }

  derived_read : (r : Row) → is_int (rowid r) ≡ true → are_typed derived_at.key 0 derived_at.columns (drop 1 r) ≡ true → are_present derived_at.key 0 derived_at.columns r ≡ true → drop 1 (row_read far derived_at r) ≡ derived_columns (derived_of r)
  unfolding derived_of
  derived_read r id are there =
      let key = derived_at.key in
      let cs = derived_at.columns in
      ap₂ {A = Value} ◌∷◌ (int_at far key cs r are there 0 (codes "run") refl refl) (ap₂ {A = Value} ◌∷◌ (int_at far key cs r are there 1 (codes "pos") refl refl) (ap₂ {A = Value} ◌∷◌ (blob_at far key cs r are there 2 (codes "name") refl refl) refl))

  coef_of : Row → CoefRow
  coef_of r = record { run = value_of far (column r 1); place = value_of far (column r 2); event = value_of far (column r 3); times = value_of far (column r 4) }

  coef_read : (r : Row) → is_int (rowid r) ≡ true → are_typed coef_at.key 0 coef_at.columns (drop 1 r) ≡ true → are_present coef_at.key 0 coef_at.columns r ≡ true → drop 1 (row_read far coef_at r) ≡ coef_columns (coef_of r)
  unfolding coef_of
  coef_read r id are there =
      let key = coef_at.key in
      let cs = coef_at.columns in
      ap₂ {A = Value} ◌∷◌ (int_at far key cs r are there 0 (codes "run") refl refl) (ap₂ {A = Value} ◌∷◌ (int_at far key cs r are there 1 (codes "pos") refl refl) (ap₂ {A = Value} ◌∷◌ (int_at far key cs r are there 2 (codes "event") refl refl) (ap₂ {A = Value} ◌∷◌ (int_at far key cs r are there 3 (codes "n") refl refl) refl)))

  cell_of : Row → StoredCell
  cell_of r = record { run = value_of far (column r 1); object = value_of far (column r 3); file = value_of far (column r 4); function = value_of far (column r 5); line = value_of far (column r 6); thread = value_of far (column r 2); event = value_of far (column r 7); cost = value_of far (column r 8) }

  cell_read : (r : Row) → is_int (rowid r) ≡ true → are_typed thread_cell_at.key 0 thread_cell_at.columns (drop 1 r) ≡ true → are_present thread_cell_at.key 0 thread_cell_at.columns r ≡ true → drop 1 (row_read far thread_cell_at r) ≡ cell_columns (cell_of r)
  unfolding cell_of
  cell_read r id are there =
      let key = thread_cell_at.key in
      let cs = thread_cell_at.columns in
      ap₂ {A = Value} ◌∷◌ (int_at far key cs r are there 0 (codes "run") refl refl) (ap₂ {A = Value} ◌∷◌ (int_at far key cs r are there 1 (codes "thread") refl refl) (ap₂ {A = Value} ◌∷◌ (int_at far key cs r are there 2 (codes "ob") refl refl) (ap₂ {A = Value} ◌∷◌ (int_at far key cs r are there 3 (codes "fl") refl refl) (ap₂ {A = Value} ◌∷◌ (int_at far key cs r are there 4 (codes "fn") refl refl) (ap₂ {A = Value} ◌∷◌ (int_at far key cs r are there 5 (codes "line") refl refl) (ap₂ {A = Value} ◌∷◌ (int_at far key cs r are there 6 (codes "event") refl refl) (ap₂ {A = Value} ◌∷◌ (int_at far key cs r are there 7 (codes "cost") refl refl) refl)))))))

  call_of : Row → StoredCall
  call_of r = record { run = value_of far (column r 1); object = value_of far (column r 2); file = value_of far (column r 3); function = value_of far (column r 4); line = value_of far (column r 5); called_object = value_of far (column r 6); called_file = value_of far (column r 7); called_function = value_of far (column r 8); part = value_of far (column r 9); sum = value_of far (column r 10) }

  call_read : (r : Row) → is_int (rowid r) ≡ true → are_typed arc_at.key 0 arc_at.columns (drop 1 r) ≡ true → are_present arc_at.key 0 arc_at.columns r ≡ true → drop 1 (row_read far arc_at r) ≡ arc_columns (call_of r)
  unfolding call_of
  call_read r id are there =
      let key = arc_at.key in
      let cs = arc_at.columns in
      ap₂ {A = Value} ◌∷◌ (int_at far key cs r are there 0 (codes "run") refl refl) (ap₂ {A = Value} ◌∷◌ (int_at far key cs r are there 1 (codes "ob") refl refl) (ap₂ {A = Value} ◌∷◌ (int_at far key cs r are there 2 (codes "fl") refl refl) (ap₂ {A = Value} ◌∷◌ (int_at far key cs r are there 3 (codes "fn") refl refl) (ap₂ {A = Value} ◌∷◌ (int_at far key cs r are there 4 (codes "line") refl refl) (ap₂ {A = Value} ◌∷◌ (int_at far key cs r are there 5 (codes "cob") refl refl) (ap₂ {A = Value} ◌∷◌ (int_at far key cs r are there 6 (codes "cfl") refl refl) (ap₂ {A = Value} ◌∷◌ (int_at far key cs r are there 7 (codes "cfn") refl refl) (ap₂ {A = Value} ◌∷◌ (int_at far key cs r are there 8 (codes "part") refl refl) (ap₂ {A = Value} ◌∷◌ (int_at far key cs r are there 9 (codes "n") refl refl) refl)))))))))

  stack_of : Row → StoredStack
  stack_of r = record { run = value_of far (column r 1); frames = bytes (column r 2); count = value_of far (column r 3) }

  stack_read : (r : Row) → is_int (rowid r) ≡ true → are_typed stack_at.key 0 stack_at.columns (drop 1 r) ≡ true → are_present stack_at.key 0 stack_at.columns r ≡ true → drop 1 (row_read far stack_at r) ≡ stack_columns (stack_of r)
  unfolding stack_of
  stack_read r id are there =
      let key = stack_at.key in
      let cs = stack_at.columns in
      ap₂ {A = Value} ◌∷◌ (int_at far key cs r are there 0 (codes "run") refl refl) (ap₂ {A = Value} ◌∷◌ (blob_at far key cs r are there 1 (codes "frames") refl refl) (ap₂ {A = Value} ◌∷◌ (int_at far key cs r are there 2 (codes "n") refl refl) refl))

  group_of : Row → GroupRow
  group_of r = record { name = bytes (column r 1); baseline = value_or_none far (column r 2) }

  group_read : (r : Row) → is_int (rowid r) ≡ true → are_typed grp_at.key 0 grp_at.columns (drop 1 r) ≡ true → are_present grp_at.key 0 grp_at.columns r ≡ true → drop 1 (row_read far grp_at r) ≡ group_columns (group_of r)
  unfolding group_of
  group_read r id are there =
      let key = grp_at.key in
      let cs = grp_at.columns in
      ap₂ {A = Value} ◌∷◌ (text_at far key cs r are there 0 (codes "name") refl refl) (ap₂ {A = Value} ◌∷◌ (int_or_null_at far key cs r are there 1 (codes "baseline") refl refl) refl)

  member_of : Row → MemberRow
  member_of r = record { group = bytes (column r 1); run = value_of far (column r 2) }

  member_read : (r : Row) → is_int (rowid r) ≡ true → are_typed member_at.key 0 member_at.columns (drop 1 r) ≡ true → are_present member_at.key 0 member_at.columns r ≡ true → drop 1 (row_read far member_at r) ≡ member_columns (member_of r)
  unfolding member_of
  member_read r id are there =
      let key = member_at.key in
      let cs = member_at.columns in
      ap₂ {A = Value} ◌∷◌ (text_at far key cs r are there 0 (codes "grp") refl refl) (ap₂ {A = Value} ◌∷◌ (int_at far key cs r are there 1 (codes "run") refl refl) refl)

-- where meta has its row
module _ (db : Trees) (sound : IsSound schema_two db) (shaped : AreShaped db) (meta : HasMeta db) (far : ℕ → ℕ) (is_far : (n : ℕ) → 2 ^ 64 ≤ far n) where
  lines_of : Tables
  lines_of = record {
    next = value_of far (column meta.row 3);
    runs = map (run_of far) (db 1);
    events = map (event_of far) (db 3);
    derived = map (derived_of far) (db 6);
    coefs = map (coef_of far) (db 9);
    names = map (name_of far) (db 11);
    cells = map (cell_of far) (db 23);
    calls = map (call_of far) (db 15);
    stacks = map (stack_of far) (db 17);
    groups = map (group_of far) (db 19);
    members = map (member_of far) (db 21);
  }

  meta_read : map (row_read far meta_at) (db 0) ≡ meta_columns (value_of far (column meta.row 3)) ∷ []
  meta_read =
      let r = meta.row in
      let are = (and_parts (are_typed meta_at.key 0 meta_at.columns (drop 1 r)) (has_computed meta_at r) (subst (AreTyped meta_at) meta.only (sound.obeys.rules Datatype).0).0).0 in
      let there = (subst (ArePresent meta_at) meta.only (sound.obeys.rules NotNull).0).0 in
      let empty : as_read far (column r 1) ≡ Null = null_read far (column r 1) (subst (λ v. is_null v ≡ true) (column_behind r 0) (key_null meta_at.columns (drop 1 r) are)) in
      let row : row_read far meta_at r ≡ meta_columns (value_of far (column r 3)) =
      ap₂ {A = Value} ◌∷◌ (ap (as_read far) meta.id) (ap₂ {A = Value} ◌∷◌ empty (ap₂ {A = Value} ◌∷◌ (ap (as_read far) meta.schema) (ap₂ {A = Value} ◌∷◌ (int_at far meta_at.key meta_at.columns r are there 2 (codes "next_run") refl refl) refl))) in
      ap (map (row_read far meta_at)) meta.only ∙ ap (λ l. l ∷ []) row

  pub lines_said : (t : Tables) × RowsSay t db
  unfolding lines_of RowsSay
  lines_said =
      let d = sound.obeys.rules Datatype in
      let p = sound.obeys.rules NotNull in (
        lines_of,
        record {
          sound = sound;
          far = far;
          is_far = is_far;
          contents_are = (
            record { numbered = shaped.0; rows_are = meta_read },
            (
              record { numbered = shaped.1.0; rows_are = each_read run_at (row_read far run_at) run_columns (run_of far) (run_read far) (db 1) shaped.1.0.1 d.1.0 p.1.0 },
              (
                record { numbered = shaped.1.1.0; rows_are = map-map (drop 1) (row_read far run_event_at) (db 3) ∙ each_read run_event_at (λ r. drop 1 (row_read far run_event_at r)) event_columns (event_of far) (event_read far) (db 3) shaped.1.1.0.1 d.1.1.0 p.1.1.0 },
                (
                  record { numbered = shaped.1.1.1.0; rows_are = map-map (drop 1) (row_read far derived_at) (db 6) ∙ each_read derived_at (λ r. drop 1 (row_read far derived_at r)) derived_columns (derived_of far) (derived_read far) (db 6) shaped.1.1.1.0.1 d.1.1.1.0 p.1.1.1.0 },
                  (
                    record { numbered = shaped.1.1.1.1.0; rows_are = map-map (drop 1) (row_read far coef_at) (db 9) ∙ each_read coef_at (λ r. drop 1 (row_read far coef_at r)) coef_columns (coef_of far) (coef_read far) (db 9) shaped.1.1.1.1.0.1 d.1.1.1.1.0 p.1.1.1.1.0 },
                    (
                      record { numbered = shaped.1.1.1.1.1.0; rows_are = each_read name_at (row_read far name_at) name_columns (name_of far) (name_read far) (db 11) shaped.1.1.1.1.1.0.1 d.1.1.1.1.1.0 p.1.1.1.1.1.0 },
                      (
                        record { numbered = shaped.1.1.1.1.1.1.0; rows_are = map-map (drop 1) (row_read far arc_at) (db 15) ∙ each_read arc_at (λ r. drop 1 (row_read far arc_at r)) arc_columns (call_of far) (call_read far) (db 15) shaped.1.1.1.1.1.1.0.1 d.1.1.1.1.1.1.0 p.1.1.1.1.1.1.0 },
                        (
                          record { numbered = shaped.1.1.1.1.1.1.1.0; rows_are = map-map (drop 1) (row_read far stack_at) (db 17) ∙ each_read stack_at (λ r. drop 1 (row_read far stack_at r)) stack_columns (stack_of far) (stack_read far) (db 17) shaped.1.1.1.1.1.1.1.0.1 d.1.1.1.1.1.1.1.0 p.1.1.1.1.1.1.1.0 },
                          (
                            record { numbered = shaped.1.1.1.1.1.1.1.1.0; rows_are = map-map (drop 1) (row_read far grp_at) (db 19) ∙ each_read grp_at (λ r. drop 1 (row_read far grp_at r)) group_columns (group_of far) (group_read far) (db 19) shaped.1.1.1.1.1.1.1.1.0.1 d.1.1.1.1.1.1.1.1.0 p.1.1.1.1.1.1.1.1.0 },
                            (
                              record { numbered = shaped.1.1.1.1.1.1.1.1.1.0; rows_are = map-map (drop 1) (row_read far member_at) (db 21) ∙ each_read member_at (λ r. drop 1 (row_read far member_at r)) member_columns (member_of far) (member_read far) (db 21) shaped.1.1.1.1.1.1.1.1.1.0.1 d.1.1.1.1.1.1.1.1.1.0 p.1.1.1.1.1.1.1.1.1.0 },
                              (
                                record { numbered = shaped.1.1.1.1.1.1.1.1.1.1.0; rows_are = map-map (drop 1) (row_read far thread_cell_at) (db 23) ∙ each_read thread_cell_at (λ r. drop 1 (row_read far thread_cell_at r)) cell_columns (cell_of far) (cell_read far) (db 23) shaped.1.1.1.1.1.1.1.1.1.1.0.1 d.1.1.1.1.1.1.1.1.1.1.0 p.1.1.1.1.1.1.1.1.1.1.0 },
                                tt,
                              ),
                            ),
                          ),
                        ),
                      ),
                    ),
                  ),
                ),
              ),
            ),
          );
        },
      )
