-- What the tables of a database say of runs: their numbers rise, and each line names one that is held.
use Rattle.std.proofs.Common.{◌≡◌, ℕ, ◌<◌, List, [], ◌∷◌, map, drop, true, false, ◌&&◌, ◌||◌, ◌==◌, eqb, Option, Some, None, refl, sym, ap, subst, ◌∙◌, arith, codes}
use Rattle.std.proofs.lemmas.Bool.{and_parts}
use Rattle.std.proofs.lemmas.Int.{ints}
use Rattle.std.specs.declared.cmp.Ordering.TheVariants.{Less}
use Rattle.std.specs.List.{AllByRecursion, list_any}
use Rattle.sqlite_value.specs.declared.keys.Collation.TheVariants.{Binary}
use Rattle.sqlite_value.specs.Order.{Row, column, value_cmp}
use Rattle.sqlite_value.proofs.OrderLemmas.{value_cmp-Int}
use Rattle.sqlite_value.specs.Keys.{first_key, plain}
use Rattle.sqlite_trees.specs.Tree.{Trees, rowid, IsTable}
use Rattle.sqlite_sql.specs.Ops.{binary, is_true, is_null}
use Rattle.sqlite_sql.specs.declared.ops.BinaryOp.TheVariants.{Compare}
use Rattle.sqlite_sql.specs.declared.ops.CompareOp.TheVariants.{Eq}
use Rattle.sqlite_schema.specs.declared.schema.Constraint.TheVariants.{ForeignKey}
use Rattle.sqlite_schema.specs.declared.schema.Action.{Action}
use Rattle.sqlite_schema.specs.declared.schema.Action.TheVariants.{Cascade, SetNull}
use Rattle.sqlite_schema.specs.declared.schema.Reference.{Reference}
use Rattle.sqlite_schema.specs.Rules.{agree, has_parent, is_held, parent_key}
use Rattle.sqlite_rules.proofs.ListLemmas.{some_has, some_from}
use Rattle.sqlite_tied.proofs.RuleLemmas.{and_true}
use Rattle.sqlite_tied.specs.Compute.{everything}
use Rattle.sql_tables.proofs.Rows.{numbers_equal}
use Rattle.prof_store.specs.Schema.{schema_two, to}
use Rattle.prof_store.specs.Tables.{Holds, group_columns, member_columns, number, number_or_null, run_columns}
use Rattle.prof_store.proofs.Finds.{run_row}
use Rattle.prof_store.proofs.Sound.{sound_of}
use Rattle.plain_tables.specs.Changes.{has_run}
use Rattle.plain_tables.specs.Lists.{IsAscending}
use Rattle.plain_tables.specs.Sound.{AreOfRuns}
use Rattle.plain_tables.specs.Tables.{Tables, RunRow, GroupRow, MemberRow}
use Rattle.run_lists.specs.HeldRuns.{IsOfRun, NameHeldRuns}

-- ---- numbers of runs rise

below_is : (a b : ℕ) → value_cmp (number a) (number b) ≡ Less → a < b
below_is a b h = grind (arith, ints, sym (value_cmp-Int _ _) ∙ h)

all_below : (line : RunRow) (lines : List RunRow) → AllByRecursion (λ (r : Row). value_cmp (rowid (run_columns line)) (rowid r) ≡ Less) (map run_columns lines) → AllByRecursion (λ (l : RunRow). line.number < l.number) lines
all_below line [] h = tt
all_below line (l ∷ lines) h = (below_is line.number l.number h.0, all_below line lines h.1)

runs_rise : (lines : List RunRow) → IsTable (map run_columns lines) → IsAscending (λ (a b : RunRow). a.number < b.number) lines
runs_rise [] h = tt
runs_rise (line ∷ lines) h = (all_below line lines h.0, runs_rise lines h.1)

-- ---- members and baselines

-- a reference to a run from the column behind the first, whatever is done where the run goes
abbrev to_run : Action → Reference
to_run then = record (to (codes "run") 2) { on_delete = then }

-- points to the rowid of the table of runs
parent_is : (on_delete : Action) → parent_key schema_two.tables (to_run on_delete) ≡ Some (1, 0 ∷ [], plain)
unfolding everything
parent_is on_delete = refl

second_column : (row : Row) → column row 2 ≡ column (drop 1 row) 1
second_column [] = refl
second_column (v ∷ vs) = refl

no_null : (row : Row) (n : ℕ) → column row 2 ≡ number n → is_null (column row 2) || false ≡ false
no_null row n is = ap (λ v. is_null v || false) is

module _ (t : Tables) (db : Trees) (was : Holds t db) where
  run_held : (row : Row) (n : ℕ) → column row 2 ≡ number n → list_any (λ parent. agree plain (0 ∷ []) parent (2 ∷ []) row) (db 1) ≡ true → has_run t n ≡ true
  unfolding first_key
  run_held row n is h =
      let parent = some_has _ (db 1) h in
      let line = run_row t db parent.0 was parent.1 in
      let same : eqb line.0.number n ≡ true =
      sym (and_true _ ∙ numbers_equal line.0.number n) ∙ ap (λ p. is_true (binary (Compare Eq Binary) (column p 0) (number n)) && true) (sym line.2)
      ∙ ap (λ v. is_true (binary (Compare Eq Binary) (column parent.0 0) v) && true) (sym is) ∙ parent.2 in
      some_from (λ (r : RunRow). r.number == n) t.runs line.0 line.1 same

  row_held : (on_delete : Action) (row : Row) (n : ℕ) → column row 2 ≡ number n → has_parent schema_two.tables db row (to_run on_delete) ≡ true → has_run t n ≡ true
  row_held on_delete row n is h =
      run_held row n is (ap (λ b. b || list_any (λ parent. agree plain (0 ∷ []) parent (2 ∷ []) row) (db 1)) (sym (no_null row n is))
      ∙ ap (λ key. (is_null (column row 2) || false) || is_held db (2 ∷ []) row key) (sym (parent_is on_delete)) ∙ h)

  members_held : (rows : List Row) (lines : List MemberRow) → map (drop 1) rows ≡ map member_columns lines
      → AllByRecursion (λ row. has_parent schema_two.tables db row (to (codes "grp") 1) && (has_parent schema_two.tables db row (to_run Cascade) && true) ≡ true) rows → AreOfRuns t (λ (m : MemberRow). m.run) lines
  members_held [] [] same h = tt
  members_held [] (line ∷ lines) same h = absurd cc
  members_held (row ∷ rows) [] same h = absurd cc
  members_held (row ∷ rows) (line ∷ lines) same h =
      let first : drop 1 row ≡ member_columns line = cc in
      let later : map (drop 1) rows ≡ map member_columns lines = cc in
      (row_held Cascade row line.run (second_column row ∙ ap (λ r. column r 1) first) (and_parts _ _ (and_parts _ _ h.0).1).0, members_held rows lines later h.1)

  base_held : (row : Row) (o : Option ℕ) → column row 2 ≡ number_or_null o → has_parent schema_two.tables db row (to_run SetNull) ≡ true → IsOfRun t o
  base_held row None is h = tt
  base_held row (Some n) is h = row_held SetNull row n is h

  bases_held : (rows : List Row) (lines : List GroupRow) → map (drop 1) rows ≡ map group_columns lines
      → AllByRecursion (λ row. has_parent schema_two.tables db row (to_run SetNull) && true ≡ true) rows → AllByRecursion (λ (g : GroupRow). IsOfRun t g.baseline) lines
  bases_held [] [] same h = tt
  bases_held [] (line ∷ lines) same h = absurd cc
  bases_held (row ∷ rows) [] same h = absurd cc
  bases_held (row ∷ rows) (line ∷ lines) same h =
      let first : drop 1 row ≡ group_columns line = cc in
      let later : map (drop 1) rows ≡ map group_columns lines = cc in
      (base_held row line.baseline (second_column row ∙ ap (λ r. column r 1) first) (and_parts _ _ h.0).0, bases_held rows lines later h.1)

pub held_runs : (t : Tables) (db : Trees) → Holds t db → NameHeldRuns t
held_runs t db was =
    let c = was.contain.contents_are in
    let rules = (was.contain.sound.obeys.rules ForeignKey).1.1 in
    let sound = sound_of t db was in
    record {
      runs_rise = runs_rise t.runs (subst IsTable c.1.0.rows_are c.1.0.numbered.0);
      events = sound.events;
      derived = sound.derived;
      coefs = sound.coefs;
      members = members_held t db was (db 21) t.members c.1.1.1.1.1.1.1.1.1.0.rows_are rules.1.1.1.1.1.1.1.0;
      baselines = bases_held t db was (db 19) t.groups c.1.1.1.1.1.1.1.1.0.rows_are rules.1.1.1.1.1.1.0;
    }
