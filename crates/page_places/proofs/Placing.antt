-- Where the tables and indexes of a schema stand in a file that holds it.
use Rattle.std.proofs.Common.{◌≡◌, ℕ, suc, ◌+◌, ◌*◌, pos, List, [], ◌∷◌, ◌++◌, slice_get, codes, map, Some, refl, sym, ap, ap₂, subst, ◌∙◌, inl, inr, arith}
use Rattle.std.specs.List.{AllByRecursion}
use Rattle.std.specs.Fmt.{decimal}
use Rattle.std.proofs.lemmas.Fmt.{decimal_digit}
use Rattle.sqlite_value.specs.declared.value.Value.TheVariants.{Int}
use Rattle.sqlite_value.specs.declared.keys.Order.{Order}
use Rattle.sqlite_value.specs.Order.{Row, column}
use Rattle.sqlite_trees.specs.Tree.{Trees, rowid}
use Rattle.sqlite_trees.specs.Objects.{catalog_tree, listing, number_in, shape_code}
use Rattle.sqlite_trees.specs.declared.store.Shape.{Shape}
use Rattle.sqlite_trees.specs.declared.store.Shape.TheVariants as shape
use Rattle.sqlite_schema.specs.declared.schema.Index.{Index}
use Rattle.sqlite_schema.specs.declared.schema.Table.{Table}
use Rattle.sqlite_schema.specs.declared.schema.Schema.{Schema}
use Rattle.sqlite_schema.specs.Rules.{index_reals, table_reals}
use Rattle.sqlite_rules.specs.Lists.{Has}
use Rattle.sqlite_rules.proofs.ListLemmas.{all_has, has_filtered, has_got}
use Rattle.sqlite_catalog.specs.Listing.{IsIndexRow, IsSound, IsTableRow, is_index_row, is_table_row}
use Rattle.sqlite_catalog.proofs.LayoutLemmas.{zipped_left}
use Rattle.sqlite_store.specs.declared.catalog.Wanted.{Wanted}
use Rattle.sqlite_store.specs.Catalog.{shape_at, reals_at}
use Rattle.sqlite_store.specs.Listing.{listed, listed_from}
use Rattle.prof_store.specs.Schema.{schema_two}
use Rattle.page_rows.specs.Tables.{description_at}
use Rattle.page_places.specs.Placed.{IsIndexPlaced, IsPlaced}
use Rattle.page_places.specs.Roots.{index_name}

-- ---- the rows of the list of trees

-- the row is that of the tree at this place, where the list begins with this tree
record IsListedAt (first : ℕ) (wanted : List Wanted) (row : Row) (at : ℕ) : Type 0 where
  id : rowid row ≡ Int (pos (first + at + 1))
  shape : number_in (column row 5) ≡ shape_code (shape_at wanted at)
  reals : number_in (column row 6) ≡ reals_at wanted at
  name : column row 2 ≡ column (description_at wanted at) 1
  kind : column row 1 ≡ column (description_at wanted at) 0

at_first : (first : ℕ) (w : Wanted) (wanted : List Wanted) (row : Row) → row ≡ listing first w.row w.shape w.reals → IsListedAt first (w ∷ wanted) row 0
at_first first w wanted row is = record {
  id = ap rowid is ∙ ap (λ n. Int (pos n)) (omega arith);
  shape = ap (λ r. number_in (column r 5)) is;
  reals = ap (λ r. number_in (column r 6)) is;
  name = ap (λ r. column r 2) is;
  kind = ap (λ r. column r 1) is;
}

at_later : (first : ℕ) (w : Wanted) (wanted : List Wanted) (row : Row) (at : ℕ) → IsListedAt (first + 1) wanted row at → IsListedAt first (w ∷ wanted) row (suc at)
at_later first w wanted row at is = record { id = is.id ∙ ap (λ n. Int (pos n)) (omega arith); shape = is.shape; reals = is.reals; name = is.name; kind = is.kind }

-- each row is that of one tree
listed_at : (first : ℕ) (wanted : List Wanted) (row : Row) → Has (listed_from first wanted) row → (at : ℕ) × IsListedAt first wanted row at
listed_at first [] row there = absurd there
listed_at first (w ∷ wanted) row there = go w.shape refl there (listed_at (first + 1) wanted row)
  where
    here : (kind : Shape) → w.shape ≡ kind → row ≡ listing first w.row kind w.reals → (at : ℕ) × IsListedAt first (w ∷ wanted) row at
    here kind is same = (0, at_first first w wanted row (same ∙ ap (λ s. listing first w.row s w.reals) (sym is)))

    later : (at : ℕ) × IsListedAt (first + 1) wanted row at → (at : ℕ) × IsListedAt first (w ∷ wanted) row at
    later place = (suc place.0, at_later first w wanted row place.0 place.1)

    go : (kind : Shape) → w.shape ≡ kind → Has (listed first w kind ++ listed_from (first + 1) wanted) row
        → (Has (listed_from (first + 1) wanted) row → (at : ℕ) × IsListedAt (first + 1) wanted row at) → (at : ℕ) × IsListedAt first (w ∷ wanted) row at
    go shape.Absent is there more = later (more there)
    go shape.Table is (inl same) more = here shape.Table is same
    go shape.Table is (inr there) more = later (more there)
    go (shape.Index o) is (inl same) more = here (shape.Index o) is same
    go (shape.Index o) is (inr there) more = later (more there)
    go shape.Pageless is (inl same) more = here shape.Pageless is same
    go shape.Pageless is (inr there) more = later (more there)
    go shape.FrozenTable is (inl same) more = here shape.FrozenTable is same
    go shape.FrozenTable is (inr there) more = later (more there)
    go (shape.FrozenIndex o) is (inl same) more = here (shape.FrozenIndex o) is same
    go (shape.FrozenIndex o) is (inr there) more = later (more there)

-- only a table's code is 1
one_is_table : (kind : Shape) → shape_code kind ≡ 1 → kind ≡ shape.Table
one_is_table shape.Absent is = absurd cc
one_is_table shape.Table is = refl
one_is_table (shape.Index o) is = let no : ⊥ = omega arith in absurd no
one_is_table shape.Pageless is = absurd cc
one_is_table shape.FrozenTable is = absurd cc
one_is_table (shape.FrozenIndex o) is = let no : ⊥ = omega arith in absurd no

-- an index's code gives its order
code_is_index : (kind : Shape) (o : Order) → shape_code kind ≡ 2 + 8 * o.digits → kind ≡ shape.Index o
code_is_index shape.Absent o is = let no : ⊥ = omega arith in absurd no
code_is_index shape.Table o is = let no : ⊥ = omega arith in absurd no
code_is_index (shape.Index p) o is = let same : p.digits ≡ o.digits = omega arith in ap (λ n. shape.Index (record { digits = n })) same
code_is_index shape.Pageless o is = let no : ⊥ = omega arith in absurd no
code_is_index shape.FrozenTable o is = let no : ⊥ = omega arith in absurd no
code_is_index (shape.FrozenIndex p) o is = let no : ⊥ = omega arith in absurd no

-- ---- the tables of a schema

-- a database that lists a schema has each of its tables under its name, where it has no REAL column
pub table_placed : (schema : Schema) (wanted : List Wanted) (db : Trees) → db catalog_tree ≡ listed_from 0 wanted → IsSound schema db
    → (at : ℕ) (table : Table) → slice_get schema.tables at ≡ Some table → table_reals table ≡ 0 → IsPlaced wanted table
table_placed schema wanted db catalog sound at table there plain =
    let rows = db catalog_tree in
    let (row, kept, is) = zipped_left IsTableRow _ schema.tables table sound.lists.listed.tables (has_got schema.tables at table there) in
    let place = listed_at 0 wanted row (subst (λ l. Has l row) catalog (has_filtered is_table_row rows row kept).0) in
    let id : Int (pos (0 + place.0 + 1)) ≡ Int (pos (table.tree + 1)) = sym place.1.id ∙ is.described.id in
    let number : 0 + place.0 + 1 ≡ table.tree + 1 = cc in
    let tree : place.0 ≡ table.tree = omega arith in
    let placed : IsListedAt 0 wanted row table.tree = subst (IsListedAt 0 wanted row) tree place.1 in
    record {
      low = omega (arith, is.described.low);
      named = record { shape = one_is_table (shape_at wanted table.tree) (sym placed.shape ∙ is.described.shape_is); named = sym placed.name ∙ is.described.name_is };
      plain = sym placed.reals ∙ is.described.reals_are ∙ plain;
    }

-- ---- the tables of schema 2

-- none has a REAL column
no_reals : AllByRecursion (λ (table : Table). table_reals table ≡ 0) schema_two.tables
no_reals = (refl, (refl, (refl, (refl, (refl, (refl, (refl, (refl, (refl, (refl, (refl, tt)))))))))))

-- a sound database of our tables has each of them under its name
pub placed_at : (wanted : List Wanted) (db : Trees) → db catalog_tree ≡ listed_from 0 wanted → IsSound schema_two db → (at : ℕ) (table : Table) → slice_get schema_two.tables at ≡ Some table
    → IsPlaced wanted table
placed_at wanted db catalog sound at table there =
    table_placed schema_two wanted db catalog sound at table there
    (all_has (λ (it : Table). table_reals it ≡ 0) schema_two.tables table no_reals (has_got schema_two.tables at table there))

-- ---- the indexes of schema 2

-- none has a REAL column where its table has none
no_index_reals : AllByRecursion (λ (index : Index). index_reals 0 index.columns ≡ 0) schema_two.indexes
no_index_reals = (refl, (refl, (refl, (refl, (refl, (refl, (refl, (refl, (refl, (refl, (refl, (refl, tt))))))))))))

-- and each of their indexes
pub index_placed_at : (wanted : List Wanted) (db : Trees) → db catalog_tree ≡ listed_from 0 wanted → IsSound schema_two db → (at : ℕ) (index : Index)
    → slice_get schema_two.indexes at ≡ Some index → IsIndexPlaced wanted index
index_placed_at wanted db catalog sound at index there =
    let rows = db catalog_tree in
    let has = has_got schema_two.indexes at index there in
    let (row, kept, is) = zipped_left (IsIndexRow schema_two.tables) _ schema_two.indexes index sound.lists.listed.indexes has in
    let place = listed_at 0 wanted row (subst (λ l. Has l row) catalog (has_filtered is_index_row rows row kept).0) in
    let id : Int (pos (0 + place.0 + 1)) ≡ Int (pos (index.tree + 1)) = sym place.1.id ∙ is.described.id in
    let number : 0 + place.0 + 1 ≡ index.tree + 1 = cc in
    let tree : place.0 ≡ index.tree = omega arith in
    let placed : IsListedAt 0 wanted row index.tree = subst (IsListedAt 0 wanted row) tree place.1 in
    let none : table_reals is.table ≡ 0 = all_has (λ (it : Table). table_reals it ≡ 0) schema_two.tables is.table no_reals is.listed in
    let plain : index_reals 0 index.columns ≡ 0 = all_has (λ (it : Index). index_reals 0 it.columns ≡ 0) schema_two.indexes index no_index_reals has in
    record {
      low = omega (arith, is.described.low);
      named = record {
        shape = code_is_index (shape_at wanted index.tree) index.order (sym placed.shape ∙ is.described.shape_is);
        kind = sym placed.kind ∙ is.described.kind_is;
        named = sym placed.name ∙ is.described.name_is;
      };
      plain = sym placed.reals ∙ is.described.reals_are ∙ ap (λ n. index_reals n index.columns) none ∙ plain;
    }

-- ---- the names of the indexes of schema 2

first_is : decimal 1 ≡ codes "1"
first_is = decimal_digit 1 (omega arith)

second_is : decimal 2 ≡ codes "2"
second_is = decimal_digit 2 (omega arith)

abbrev names_with : List ℕ → List ℕ → List (List ℕ)
names_with one two =
    (codes "sqlite_autoindex_run_" ++ one)
    ∷ (codes "sqlite_autoindex_run_event_" ++ one)
    ∷ (codes "sqlite_autoindex_run_event_" ++ two)
    ∷ (codes "sqlite_autoindex_derived_" ++ one)
    ∷ (codes "sqlite_autoindex_derived_" ++ two)
    ∷ (codes "sqlite_autoindex_coef_" ++ one)
    ∷ (codes "sqlite_autoindex_name_" ++ one)
    ∷ (codes "sqlite_autoindex_arc_" ++ one)
    ∷ (codes "sqlite_autoindex_stack_" ++ one)
    ∷ (codes "sqlite_autoindex_grp_" ++ one)
    ∷ (codes "sqlite_autoindex_member_" ++ one)
    ∷ (codes "sqlite_autoindex_thread_cell_" ++ one)
    ∷ []

pub index_names_are : names_with (codes "1") (codes "2") ≡ map index_name schema_two.indexes
index_names_are = sym (ap₂ names_with first_is second_is)
