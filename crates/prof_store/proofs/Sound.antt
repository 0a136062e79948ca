-- The lines that tables hold are sound: the run of each is held, and the numbers of names rise.
use Rattle.std.proofs.Common.{◌≡◌, ℕ, ◌<◌, List, [], ◌∷◌, map, drop, true, false, ◌&&◌, ◌||◌, ◌==◌, eqb, refl, sym, ap, subst, ◌∙◌, arith, codes, Some}
use Rattle.std.proofs.lemmas.Bool.{and_parts}
use Rattle.std.proofs.lemmas.Int.{ints}
use Rattle.std.specs.declared.cmp.Ordering.TheVariants.{Less}
use Rattle.std.specs.List.{AllByRecursion, list_any}
use Rattle.sqlite_value.specs.declared.keys.Collation.TheVariants.{Binary}
use Rattle.sqlite_value.specs.Order.{Row, column, value_cmp}
use Rattle.sqlite_value.proofs.OrderLemmas.{value_cmp-Int}
use Rattle.sqlite_value.specs.Keys.{first_key, plain}
use Rattle.sqlite_trees.specs.Tree.{Trees, rowid, IsTable}
use Rattle.sqlite_sql.specs.Ops.{binary, is_true, is_null}
use Rattle.sqlite_sql.specs.declared.ops.BinaryOp.TheVariants.{Compare}
use Rattle.sqlite_sql.specs.declared.ops.CompareOp.TheVariants.{Eq}
use Rattle.sqlite_schema.specs.declared.schema.Constraint.TheVariants.{ForeignKey}
use Rattle.sqlite_schema.specs.Rules.{agree, has_parent, is_held, parent_key}
use Rattle.sqlite_rules.proofs.ListLemmas.{some_has, some_from}
use Rattle.sqlite_tied.proofs.RuleLemmas.{and_true}
use Rattle.sqlite_tied.specs.Compute.{everything}
use Rattle.sql_tables.proofs.Rows.{numbers_equal}
use Rattle.prof_store.specs.Schema.{schema_two, to}
use Rattle.plain_tables.specs.Changes.{has_run}
use Rattle.plain_tables.specs.Lists.{IsAscending}
use Rattle.plain_tables.specs.Sound.{AreOfRuns, AreSound}
use Rattle.plain_tables.specs.Tables.{Tables, RunRow, NameRow}
use Rattle.prof_store.specs.Tables.{Holds, event_columns, derived_columns, coef_columns, name_columns, cell_columns, arc_columns, stack_columns, number}
use Rattle.prof_store.proofs.Finds.{run_row}

-- ---- numbers of names rise

below_is : (a b : ℕ) → value_cmp (number a) (number b) ≡ Less → a < b
below_is a b h = grind (arith, ints, sym (value_cmp-Int _ _) ∙ h)

all_below : (line : NameRow) (lines : List NameRow) → AllByRecursion (λ (r : Row). value_cmp (rowid (name_columns line)) (rowid r) ≡ Less) (map name_columns lines) → AllByRecursion (λ (l : NameRow). line.number < l.number) lines
all_below line [] h = tt
all_below line (l ∷ lines) h = (below_is line.number l.number h.0, all_below line lines h.1)

lines_rise : (lines : List NameRow) → IsTable (map name_columns lines) → IsAscending (λ (a b : NameRow). a.number < b.number) lines
lines_rise [] h = tt
lines_rise (line ∷ lines) h = (all_below line lines h.0, lines_rise lines h.1)

-- ---- runs of lines are held

-- a reference to a run points to the rowid of the table of runs
parent_is : parent_key schema_two.tables (to (codes "run") 1) ≡ Some (1, 0 ∷ [], plain)
unfolding everything
parent_is = refl

no_null : (row : Row) (n : ℕ) → column row 1 ≡ number n → is_null (column row 1) || false ≡ false
no_null row n is = ap (λ v. is_null v || false) is

first_column : (row : Row) → column row 1 ≡ column (drop 1 row) 0
first_column [] = refl
first_column (v ∷ vs) = refl

module _ (t : Tables) (db : Trees) (was : Holds t db) where
  -- a row whose run is there
  run_held : (row : Row) (n : ℕ) → column row 1 ≡ number n → list_any (λ parent. agree plain (0 ∷ []) parent (1 ∷ []) row) (db 1) ≡ true → has_run t n ≡ true
  unfolding first_key
  run_held row n is h =
      let parent = some_has _ (db 1) h in
      let line = run_row t db parent.0 was parent.1 in
      let same : eqb line.0.number n ≡ true =
      sym (and_true _ ∙ numbers_equal line.0.number n) ∙ ap (λ p. is_true (binary (Compare Eq Binary) (column p 0) (number n)) && true) (sym line.2)
      ∙ ap (λ v. is_true (binary (Compare Eq Binary) (column parent.0 0) v) && true) (sym is) ∙ parent.2 in
      some_from (λ (r : RunRow). r.number == n) t.runs line.0 line.1 same

  row_held : (row : Row) (n : ℕ) → column row 1 ≡ number n → has_parent schema_two.tables db row (to (codes "run") 1) && true ≡ true → has_run t n ≡ true
  row_held row n is h =
      run_held row n is (ap (λ b. b || list_any (λ parent. agree plain (0 ∷ []) parent (1 ∷ []) row) (db 1)) (sym (no_null row n is)) ∙ ap (λ key. (is_null (column row 1) || false) || is_held db (1 ∷ []) row key) (sym parent_is)
      ∙ (and_parts _ _ h).0)

  lines_held : {X : Type 0} (columns : X → Row) (run : X → ℕ) → ((x : X) → column (columns x) 0 ≡ number (run x)) → (rows : List Row) (lines : List X) → map (drop 1) rows ≡ map columns lines
      → AllByRecursion (λ row. has_parent schema_two.tables db row (to (codes "run") 1) && true ≡ true) rows → AreOfRuns t run lines
  lines_held columns run is [] [] same h = tt
  lines_held columns run is [] (line ∷ lines) same h = absurd cc
  lines_held columns run is (row ∷ rows) [] same h = absurd cc
  lines_held columns run is (row ∷ rows) (line ∷ lines) same h =
      let first : drop 1 row ≡ columns line = cc in
      let later : map (drop 1) rows ≡ map columns lines = cc in
      (row_held row (run line) (first_column row ∙ ap (λ r. column r 0) first ∙ is line) h.0, lines_held columns run is rows lines later h.1)

pub sound_of : (t : Tables) (db : Trees) → Holds t db → AreSound t
sound_of t db was =
    let c = was.contain.contents_are in
    let rules = (was.contain.sound.obeys.rules ForeignKey).1.1 in
    record {
      names_rise = lines_rise t.names (subst IsTable c.1.1.1.1.1.0.rows_are c.1.1.1.1.1.0.numbered.0);
      below = was.below;
      events = lines_held t db was event_columns (λ e. e.run) (λ e. refl) (db 3) t.events c.1.1.0.rows_are rules.0;
      derived = lines_held t db was derived_columns (λ d. d.run) (λ d. refl) (db 6) t.derived c.1.1.1.0.rows_are rules.1.0;
      coefs = lines_held t db was coef_columns (λ k. k.run) (λ k. refl) (db 9) t.coefs c.1.1.1.1.0.rows_are rules.1.1.0;
      cells = lines_held t db was cell_columns (λ l. l.run) (λ l. refl) (db 23) t.cells c.1.1.1.1.1.1.1.1.1.1.0.rows_are rules.1.1.1.1.1.1.1.1.0;
      calls = lines_held t db was arc_columns (λ a. a.run) (λ a. refl) (db 15) t.calls c.1.1.1.1.1.1.0.rows_are rules.1.1.1.1.0;
      stacks = lines_held t db was stack_columns (λ s. s.run) (λ s. refl) (db 17) t.stacks c.1.1.1.1.1.1.1.0.rows_are rules.1.1.1.1.1.0;
    }
