-- What each change of a table of the store needs: its place, its rows' columns, and the parents of its rows.
use Rattle.std.proofs.Common.{◌≡◌, ℕ, ℤ, List, [], ◌∷◌, map, slice_get, Bool, true, false, not, ◌&&◌, ◌==◌, codes, Some, bytes_eq, refl, sym, ap, ap₂, subst, ◌∙◌}
use Rattle.std.specs.List.{AllByRecursion, list_all, list_any}
use Rattle.std.proofs.lemmas.Bool.{and_parts, both_ways, eq-eqb, not-true, or_right}
use Rattle.sqlite_tied.proofs.RuleLemmas.{and_true}
use Rattle.sqlite_tied.specs.Compute.{everything}
use Rattle.sqlite_value.specs.declared.keys.Collation.TheVariants.{Binary}
use Rattle.sqlite_value.specs.declared.value.Value.TheVariants.{Int, Text}
use Rattle.sqlite_value.specs.Keys.{first_key, plain}
use Rattle.sqlite_value.specs.Order.{Row, column}
use Rattle.sqlite_trees.specs.Tree.{Trees, IsAscending}
use Rattle.sqlite_schema.specs.declared.schema.Action.TheVariants.{SetNull}
use Rattle.sqlite_schema.specs.declared.schema.Reference.{Reference}
use Rattle.sqlite_schema.specs.declared.schema.Table.{Table}
use Rattle.sqlite_schema.specs.Rules.{ParentKey, agree, equal, has_parent, is_held, parent_key, passes_checks}
use Rattle.sqlite_rules.specs.Lists.{Has}
use Rattle.sqlite_rules.specs.Steps.{PassAlone, is_present, is_typed}
use Rattle.sqlite_rules.proofs.ListLemmas.{has_got, some_from, some_has, test_from}
use Rattle.sqlite_rules.proofs.ProbeLemmas.{mapped_has}
use Rattle.sql_tables.specs.Contents.{IsContent}
use Rattle.sql_tables.proofs.Contents.{content_there}
use Rattle.sql_tables.proofs.Deletes.{row_of}
use Rattle.sql_tables.proofs.Rows.{id_of, numbers_equal, texts_equal}
use Rattle.plain_tables.specs.Changes.{is_named}
use Rattle.plain_tables.specs.Tables.{Tables, RunRow, GroupRow}
use Rattle.prof_store.specs.Schema.{schema_two, to, grp_at, member_at}
use Rattle.prof_store.specs.Tables.{Holds, contents_of, run_columns, group_columns, member_columns, number}
use Rattle.page_places.specs.TableChanges.{IsOneOf, OnlyChanges}
use Rattle.page_places.proofs.Contents.{Lined, line_of, lined_content, row_of_line}

-- ---- the tables

abbrev each_apart : List Table → Bool
each_apart [] = true
each_apart (t ∷ tables) = list_all (λ u. not (t.tree == u.tree)) tables && each_apart tables

apart_from : (tables : List Table) → each_apart tables ≡ true → IsAscending (λ a b. a.tree ≡ b.tree → ⊥) tables
apart_from [] h = tt
apart_from (t ∷ tables) h = let parts = and_parts _ _ h in (all_of tables parts.0, apart_from tables parts.1)
  where
    all_of : (us : List Table) → list_all (λ u. not (t.tree == u.tree)) us ≡ true → AllByRecursion (λ u. t.tree ≡ u.tree → ⊥) us
    all_of [] h = tt
    all_of (u ∷ us) h = let parts = and_parts _ _ h in (λ same. both_ways _ (not-true _ parts.0) (eq-eqb t.tree u.tree same), all_of us parts.1)

pub one_of : (at : ℕ) (table : Table) → slice_get schema_two.tables at ≡ Some table → IsOneOf schema_two table
one_of at table there = record { apart = apart_from schema_two.tables refl; listed = has_got schema_two.tables at table there }

-- ---- rows that pass alone

pub alone_from : {X : Type 0} (table : Table) (columns : X → Row) → ((id : ℤ) (x : X) → is_typed table (row_of table columns (Int id) x) ≡ true) → ((id : ℤ) (x : X) → is_present table (row_of table columns (Int id) x) ≡ true)
    → ((id : ℤ) (x : X) → passes_checks table (row_of table columns (Int id) x) ≡ true) → (rows : List Row) (xs : List X) → Lined table columns rows xs → PassAlone table rows
alone_from table columns typed present checked rows xs lines = record {
  typed = test_from (is_typed table) rows (λ r there. let x = line_of table columns rows xs lines r there in ap (is_typed table) x.2 ∙ typed (id_of r) x.0);
  present = test_from (is_present table) rows (λ r there. let x = line_of table columns rows xs lines r there in ap (is_present table) x.2 ∙ present (id_of r) x.0);
  checked = test_from (passes_checks table) rows (λ r there. let x = line_of table columns rows xs lines r there in ap (passes_checks table) x.2 ∙ checked (id_of r) x.0);
}

-- ---- parents

abbrev pub baseline_of : Reference
baseline_of = record (to (codes "run") 2) { on_delete = SetNull }

-- a reference to a run points to the rowid of the table of runs, one to a group to its name
pub run_key : (place : ℕ) → parent_key schema_two.tables (to (codes "run") place) ≡ Some (1, 0 ∷ [], plain)
unfolding everything
run_key place = refl

pub baseline_key : parent_key schema_two.tables baseline_of ≡ Some (1, 0 ∷ [], plain)
unfolding everything
baseline_key = refl

pub group_key : parent_key schema_two.tables (to (codes "grp") 1) ≡ Some (19, 1 ∷ [], plain)
unfolding everything
group_key = refl

parent_from : (db : Trees) (row : Row) (ref : Reference) (key : ParentKey) → parent_key schema_two.tables ref ≡ Some key → (p : Row) → Has (db key.0) p → agree key.2 key.1 p ref.columns row ≡ true → has_parent schema_two.tables db row ref ≡ true
parent_from db row ref key is p there same = or_right _ _ (ap (is_held db ref.columns row) is ∙ some_from (λ q. agree key.2 key.1 q ref.columns row) (db key.0) p there same)

pub numbers_agree : (m n p q : ℕ) (a b : Row) → column a p ≡ number m → column b q ≡ number n → agree plain (p ∷ []) a (q ∷ []) b ≡ (m == n)
unfolding first_key
numbers_agree m n p q a b one two = ap₂ (λ v w. equal Binary v w && true) one two ∙ and_true _ ∙ numbers_equal m n

pub texts_agree : (m n : List ℕ) (p q : ℕ) (a b : Row) → column a p ≡ Text m → column b q ≡ Text n → agree plain (p ∷ []) a (q ∷ []) b ≡ bytes_eq m n
unfolding first_key
texts_agree m n p q a b one two = ap₂ (λ v w. equal Binary v w && true) one two ∙ and_true _ ∙ texts_equal m n

-- ---- what the tables hold

module _ (t : Tables) (db : Trees) (was : Holds t db) where
  pub runs_there : db 1 ≡ map run_columns t.runs
  runs_there = was.contain.contents_are.1.0.rows_are

  pub groups_there : IsContent grp_at (map group_columns t.groups) (db 19)
  groups_there = content_there schema_two.tables (contents_of t) db 8 grp_at refl was.contain.contents_are

  pub members_there : IsContent member_at (map member_columns t.members) (db 21)
  members_there = content_there schema_two.tables (contents_of t) db 9 member_at refl was.contain.contents_are

  pub groups_lined : Lined grp_at group_columns (db 19) t.groups
  groups_lined = lined_content grp_at group_columns (db 19) t.groups groups_there

  pub members_lined : Lined member_at member_columns (db 21) t.members
  members_lined = lined_content member_at member_columns (db 21) t.members members_there

-- a run among these is the parent of a row with its number
pub run_parent : (next : Trees) (runs : List RunRow) → next 1 ≡ map run_columns runs → (n place : ℕ) (ref : Reference) → parent_key schema_two.tables ref ≡ Some (1, 0 ∷ [], plain) → ref.columns ≡ place ∷ []
    → list_any (λ (r : RunRow). r.number == n) runs ≡ true → (row : Row) → column row place ≡ number n → has_parent schema_two.tables next row ref ≡ true
run_parent next runs are n place ref key at held row is =
    let r = some_has (λ (r : RunRow). r.number == n) runs held in
    parent_from next row ref (1, 0 ∷ [], plain) key (run_columns r.0) (subst (λ l. Has l (run_columns r.0)) (sym are) (mapped_has run_columns runs r.0 r.1))
    (ap (λ places. agree plain (0 ∷ []) (run_columns r.0) places row) at ∙ numbers_agree r.0.number n 0 place (run_columns r.0) row refl is ∙ r.2)

-- so is a group of a row with its name
pub group_parent : (next : Trees) (groups : List GroupRow) → Lined grp_at group_columns (next 19) groups → (name : List ℕ) → list_any (is_named name) groups ≡ true → (row : Row) → column row 1 ≡ Text name
    → has_parent schema_two.tables next row (to (codes "grp") 1) ≡ true
group_parent next groups lines name held row is =
    let g = some_has (is_named name) groups held in
    let r = row_of_line grp_at group_columns (next 19) groups lines g.0 g.1 in
    parent_from next row (to (codes "grp") 1) (19, 1 ∷ [], plain) group_key r.0 r.1 (texts_agree g.0.name name 1 1 r.0 row (ap (λ l. column l 1) r.2) is ∙ g.2)

-- another table is as it was
pub other_stays : (db next : Trees) (table : Table) → OnlyChanges schema_two db next table → (at : ℕ) (t : Table) → slice_get schema_two.tables at ≡ Some t → (t.tree == table.tree) ≡ false → next t.tree ≡ db t.tree
other_stays db next table only at t there apart = only.others t (has_got schema_two.tables at t there) (λ same. both_ways _ apart (eq-eqb t.tree table.tree same))
