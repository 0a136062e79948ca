-- The rows of a run go behind the others.
use Rattle.std.proofs.Common.{◌≡◌, ℕ, ℤ, List, [], ◌∷◌, ◌++◌, map, true, false, not, ◌&&◌, ◌==◌, codes, Option, Some, None, refl, sym, ap, ap₂, subst, ◌∙◌}
use Rattle.std.specs.List.{list_all}
use Rattle.std.proofs.lemmas.Bool.{and_from, both_ways, eq-eqb}
use Rattle.sqlite_value.specs.declared.value.Value.TheVariants.{Int}
use Rattle.sqlite_value.specs.Keys.{plain}
use Rattle.sqlite_value.specs.Order.{Row, column}
use Rattle.sqlite_trees.specs.Tree.{Trees}
use Rattle.sqlite_trees.specs.View.{IsShaped}
use Rattle.sqlite_trees.specs.declared.store.Shape.TheVariants as shape
use Rattle.sqlite_schema.specs.declared.schema.Table.{Table}
use Rattle.sqlite_schema.specs.Rules.{agree, has_parent}
use Rattle.sqlite_rules.specs.Steps.{PassAlone, is_typed}
use Rattle.sqlite_rules.proofs.ListLemmas.{all_from, all_has, some_from, test_from}
use Rattle.sql_tables.proofs.Deletes.{row_of}
use Rattle.sql_tables.proofs.Rows.{id_of}
use Rattle.plain_tables.specs.Changes.{has_run, with_calls, with_cells, with_coefs, with_derived, with_events, with_stacks}
use Rattle.plain_tables.specs.Sound.{AreOfRuns}
use Rattle.plain_tables.specs.Tables.{Tables, EventRow, DerivedRow, CoefRow, StoredCell, StoredCall, StoredStack}
use Rattle.sql_tables.specs.Contents.{rows_that_count}
use Rattle.prof_store.specs.Schema.{schema_two, to, run_at, run_event_at, derived_at, coef_at, thread_cell_at, arc_at, stack_at}
use Rattle.prof_store.specs.Tables.{Holds, event_columns, derived_columns, coef_columns, cell_columns, arc_columns, stack_columns, number}
use Rattle.page_places.specs.TableChanges.{OnlyChanges}
use Rattle.page_places.specs.Keys.{AreNew, AreOfNewRun, Differ, event_key, event_name_key, derived_key, derived_name_key, coef_key, cell_key, call_key, stack_key}
use Rattle.page_places.proofs.Contents.{Lined, line_of}
use Rattle.page_places.proofs.Keys.{agrees_at, blob_is, none_clash, number_is}
use Rattle.page_places.proofs.Lines.{lines_behind, lines_there, new_lines}
use Rattle.page_places.proofs.Store.{alone_from, other_stays, run_key, run_parent, runs_there}

-- ---- lines of a run of which there are none yet

module _ {X : Type 0} (run : X → ℕ) (n : ℕ) (olds news : List X) (new : AreOfNewRun run n olds news) where
  pub of_runs : (t : Tables) → has_run t n ≡ true → AreOfRuns t run news
  of_runs t held = all_from _ news (λ x there. subst (λ m. has_run t m ≡ true) (sym (all_has (λ y. run y ≡ n) news x new.of_run there)) held)

  -- their keys are new, where a key tells the run
  pub new_keys : (key : X → List ℕ) → ((x y : X) → key x ≡ key y → run x ≡ run y) → Differ key news → AreNew key olds news
  new_keys key tells differ = record {
    apart = all_from _ olds (λ x has_x. all_from _ news (λ y has_y same.
        both_ways _ new.none (some_from (λ z. run z == n) olds x has_x (eq-eqb (run x) n (tells x y same ∙ all_has (λ z. run z ≡ n) news y new.of_run has_y)))));
    among = differ;
  }

-- each row's run is there
module _ (t : Tables) (db next : Trees) (was : Holds t db) (table : Table) (only : OnlyChanges schema_two db next table) (apart : (1 == table.tree) ≡ false) where
  parents_there : {X : Type 0} (columns : X → Row) (run : X → ℕ) (rows : List Row) (xs : List X) → ((id : ℤ) (x : X) → column (row_of table columns (Int id) x) 1 ≡ number (run x)) → Lined table columns rows xs → AreOfRuns t run xs
      → list_all (λ row. has_parent schema_two.tables next row (to (codes "run") 1)) rows && true ≡ true
  parents_there columns run rows xs columns_are lines held = and_from _ _ (test_from (λ row. has_parent schema_two.tables next row (to (codes "run") 1)) rows (λ row there.
      let x = line_of table columns rows xs lines row there in
      run_parent next t.runs (other_stays db next table only 1 run_at refl apart ∙ runs_there t db was) (run x.0) 1 (to (codes "run") 1) (run_key 1) refl (all_has (λ y. has_run t (run y) ≡ true) xs x.0 held x.1) row
      (ap (λ l. column l 1) x.2 ∙ columns_are (id_of row) x.0))) refl

-- ---- each row alone

event_typed : (id : ℤ) (e : EventRow) → is_typed run_event_at (Int id ∷ event_columns e) ≡ true
event_typed id e = go e.stated
  where
    go : (s : Option (List ℕ)) → is_typed run_event_at (Int id ∷ event_columns (record e { stated = s })) ≡ true
    go None = refl
    go (Some text) = refl

events_alone : (rows : List Row) (xs : List EventRow) → Lined run_event_at event_columns rows xs → PassAlone run_event_at rows
events_alone = alone_from run_event_at event_columns event_typed (λ id e. refl) (λ id e. refl)

derived_alone : (rows : List Row) (xs : List DerivedRow) → Lined derived_at derived_columns rows xs → PassAlone derived_at rows
derived_alone = alone_from derived_at derived_columns (λ id x. refl) (λ id x. refl) (λ id x. refl)

coefs_alone : (rows : List Row) (xs : List CoefRow) → Lined coef_at coef_columns rows xs → PassAlone coef_at rows
coefs_alone = alone_from coef_at coef_columns (λ id x. refl) (λ id x. refl) (λ id x. refl)

cells_alone : (rows : List Row) (xs : List StoredCell) → Lined thread_cell_at cell_columns rows xs → PassAlone thread_cell_at rows
cells_alone = alone_from thread_cell_at cell_columns (λ id x. refl) (λ id x. refl) (λ id x. refl)

calls_alone : (rows : List Row) (xs : List StoredCall) → Lined arc_at arc_columns rows xs → PassAlone arc_at rows
calls_alone = alone_from arc_at arc_columns (λ id x. refl) (λ id x. refl) (λ id x. refl)

stacks_alone : (rows : List Row) (xs : List StoredStack) → Lined stack_at stack_columns rows xs → PassAlone stack_at rows
stacks_alone = alone_from stack_at stack_columns (λ id x. refl) (λ id x. refl) (λ id x. refl)

-- ---- the keys of the rows

event_key_read : (a b : ℤ) (x y : EventRow) → agree plain (1 ∷ 2 ∷ []) (row_of run_event_at event_columns (Int a) x) (1 ∷ 2 ∷ []) (row_of run_event_at event_columns (Int b) y) ≡ true → event_key x ≡ event_key y
event_key_read a b x y h = let each = agrees_at (1 ∷ 2 ∷ []) (Int a ∷ event_columns x) (Int b ∷ event_columns y) h in ap₂ ◌∷◌ (number_is x.run y.run each.0) (ap₂ ◌∷◌ (number_is x.place y.place each.1.0) refl)

event_name_key_read : (a b : ℤ) (x y : EventRow) → agree plain (1 ∷ 3 ∷ []) (row_of run_event_at event_columns (Int a) x) (1 ∷ 3 ∷ []) (row_of run_event_at event_columns (Int b) y) ≡ true → event_name_key x ≡ event_name_key y
event_name_key_read a b x y h = let each = agrees_at (1 ∷ 3 ∷ []) (Int a ∷ event_columns x) (Int b ∷ event_columns y) h in ap₂ ◌∷◌ (number_is x.run y.run each.0) (blob_is x.name y.name each.1.0)

derived_key_read : (a b : ℤ) (x y : DerivedRow) → agree plain (1 ∷ 2 ∷ []) (row_of derived_at derived_columns (Int a) x) (1 ∷ 2 ∷ []) (row_of derived_at derived_columns (Int b) y) ≡ true → derived_key x ≡ derived_key y
derived_key_read a b x y h = let each = agrees_at (1 ∷ 2 ∷ []) (Int a ∷ derived_columns x) (Int b ∷ derived_columns y) h in ap₂ ◌∷◌ (number_is x.run y.run each.0) (ap₂ ◌∷◌ (number_is x.place y.place each.1.0) refl)

derived_name_key_read : (a b : ℤ) (x y : DerivedRow) → agree plain (1 ∷ 3 ∷ []) (row_of derived_at derived_columns (Int a) x) (1 ∷ 3 ∷ []) (row_of derived_at derived_columns (Int b) y) ≡ true → derived_name_key x ≡ derived_name_key y
derived_name_key_read a b x y h = let each = agrees_at (1 ∷ 3 ∷ []) (Int a ∷ derived_columns x) (Int b ∷ derived_columns y) h in ap₂ ◌∷◌ (number_is x.run y.run each.0) (blob_is x.name y.name each.1.0)

coef_key_read : (a b : ℤ) (x y : CoefRow) → agree plain (1 ∷ 2 ∷ 3 ∷ []) (row_of coef_at coef_columns (Int a) x) (1 ∷ 2 ∷ 3 ∷ []) (row_of coef_at coef_columns (Int b) y) ≡ true → coef_key x ≡ coef_key y
coef_key_read a b x y h = let each = agrees_at (1 ∷ 2 ∷ 3 ∷ []) (Int a ∷ coef_columns x) (Int b ∷ coef_columns y) h in ap₂ ◌∷◌ (number_is x.run y.run each.0) (ap₂ ◌∷◌ (number_is x.place y.place each.1.0) (ap₂ ◌∷◌ (number_is x.event y.event each.1.1.0) refl))

cell_key_read : (a b : ℤ) (x y : StoredCell) → agree plain (1 ∷ 5 ∷ 6 ∷ 4 ∷ 3 ∷ 2 ∷ 7 ∷ []) (row_of thread_cell_at cell_columns (Int a) x) (1 ∷ 5 ∷ 6 ∷ 4 ∷ 3 ∷ 2 ∷ 7 ∷ []) (row_of thread_cell_at cell_columns (Int b) y) ≡ true → cell_key x ≡ cell_key y
cell_key_read a b x y h = let each = agrees_at (1 ∷ 5 ∷ 6 ∷ 4 ∷ 3 ∷ 2 ∷ 7 ∷ []) (Int a ∷ cell_columns x) (Int b ∷ cell_columns y) h in ap₂ ◌∷◌ (number_is x.run y.run each.0) (ap₂ ◌∷◌ (number_is x.function y.function each.1.0) (ap₂ ◌∷◌ (number_is x.line y.line each.1.1.0) (ap₂ ◌∷◌ (number_is x.file y.file each.1.1.1.0) (ap₂ ◌∷◌ (number_is x.object y.object each.1.1.1.1.0) (ap₂ ◌∷◌ (number_is x.thread y.thread each.1.1.1.1.1.0) (ap₂ ◌∷◌ (number_is x.event y.event each.1.1.1.1.1.1.0) refl))))))

call_key_read : (a b : ℤ) (x y : StoredCall) → agree plain (1 ∷ 2 ∷ 3 ∷ 4 ∷ 5 ∷ 6 ∷ 7 ∷ 8 ∷ 9 ∷ []) (row_of arc_at arc_columns (Int a) x) (1 ∷ 2 ∷ 3 ∷ 4 ∷ 5 ∷ 6 ∷ 7 ∷ 8 ∷ 9 ∷ []) (row_of arc_at arc_columns (Int b) y) ≡ true → call_key x ≡ call_key y
call_key_read a b x y h = let each = agrees_at (1 ∷ 2 ∷ 3 ∷ 4 ∷ 5 ∷ 6 ∷ 7 ∷ 8 ∷ 9 ∷ []) (Int a ∷ arc_columns x) (Int b ∷ arc_columns y) h in ap₂ ◌∷◌ (number_is x.run y.run each.0) (ap₂ ◌∷◌ (number_is x.object y.object each.1.0) (ap₂ ◌∷◌ (number_is x.file y.file each.1.1.0) (ap₂ ◌∷◌ (number_is x.function y.function each.1.1.1.0) (ap₂ ◌∷◌ (number_is x.line y.line each.1.1.1.1.0) (ap₂ ◌∷◌ (number_is x.called_object y.called_object each.1.1.1.1.1.0) (ap₂ ◌∷◌ (number_is x.called_file y.called_file each.1.1.1.1.1.1.0) (ap₂ ◌∷◌ (number_is x.called_function y.called_function each.1.1.1.1.1.1.1.0) (ap₂ ◌∷◌ (number_is x.part y.part each.1.1.1.1.1.1.1.1.0) refl))))))))

stack_key_read : (a b : ℤ) (x y : StoredStack) → agree plain (1 ∷ 2 ∷ []) (row_of stack_at stack_columns (Int a) x) (1 ∷ 2 ∷ []) (row_of stack_at stack_columns (Int b) y) ≡ true → stack_key x ≡ stack_key y
stack_key_read a b x y h = let each = agrees_at (1 ∷ 2 ∷ []) (Int a ∷ stack_columns x) (Int b ∷ stack_columns y) h in ap₂ ◌∷◌ (number_is x.run y.run each.0) (blob_is x.frames y.frames each.1.0)

-- ---- lines behind the others, by rows that have them behind their rowids

module _ (t : Tables) (db next : Trees) (was : Holds t db) (news : List Row) where
  pub events_behind : OnlyChanges schema_two db next run_event_at → IsShaped shape.Table (next run_event_at.tree) → (xs : List EventRow) → next run_event_at.tree ≡ db run_event_at.tree ++ news → rows_that_count run_event_at news ≡ map event_columns xs
      → AreOfRuns t (λ (x : EventRow). x.run) xs → AreNew event_key t.events xs → AreNew event_name_key t.events xs → Holds (with_events xs t) next
  events_behind only shaped xs behind news_are held first second =
      let olds : Lined run_event_at event_columns (db run_event_at.tree) t.events = lines_there t db was 2 run_event_at event_columns t.events refl refl in
      let fresh : Lined run_event_at event_columns news xs = new_lines t db was 2 run_event_at event_columns t.events refl refl next refl only shaped news xs behind news_are in
      record {
        contain = lines_behind t db was 2 run_event_at event_columns t.events refl refl next refl only shaped news xs behind news_are
            (record { alone = events_alone news xs fresh; unique = and_from _ _ (ap not (none_clash run_event_at event_columns event_key (1 ∷ 2 ∷ []) event_key_read (db run_event_at.tree) news (next run_event_at.tree) t.events xs behind olds fresh first)) (and_from _ _ (ap not (none_clash run_event_at event_columns event_name_key (1 ∷ 3 ∷ []) event_name_key_read (db run_event_at.tree) news (next run_event_at.tree) t.events xs behind olds fresh second)) refl); parents = parents_there t db next was run_event_at only refl event_columns (λ (x : EventRow). x.run) news xs (λ id x. refl) fresh held });
        below = was.below;
      }

  pub derived_behind : OnlyChanges schema_two db next derived_at → IsShaped shape.Table (next derived_at.tree) → (xs : List DerivedRow) → next derived_at.tree ≡ db derived_at.tree ++ news → rows_that_count derived_at news ≡ map derived_columns xs
      → AreOfRuns t (λ (x : DerivedRow). x.run) xs → AreNew derived_key t.derived xs → AreNew derived_name_key t.derived xs → Holds (with_derived xs t) next
  derived_behind only shaped xs behind news_are held first second =
      let olds : Lined derived_at derived_columns (db derived_at.tree) t.derived = lines_there t db was 3 derived_at derived_columns t.derived refl refl in
      let fresh : Lined derived_at derived_columns news xs = new_lines t db was 3 derived_at derived_columns t.derived refl refl next refl only shaped news xs behind news_are in
      record {
        contain = lines_behind t db was 3 derived_at derived_columns t.derived refl refl next refl only shaped news xs behind news_are
            (record { alone = derived_alone news xs fresh; unique = and_from _ _ (ap not (none_clash derived_at derived_columns derived_key (1 ∷ 2 ∷ []) derived_key_read (db derived_at.tree) news (next derived_at.tree) t.derived xs behind olds fresh first)) (and_from _ _ (ap not (none_clash derived_at derived_columns derived_name_key (1 ∷ 3 ∷ []) derived_name_key_read (db derived_at.tree) news (next derived_at.tree) t.derived xs behind olds fresh second)) refl); parents = parents_there t db next was derived_at only refl derived_columns (λ (x : DerivedRow). x.run) news xs (λ id x. refl) fresh held });
        below = was.below;
      }

  pub coefs_behind : OnlyChanges schema_two db next coef_at → IsShaped shape.Table (next coef_at.tree) → (xs : List CoefRow) → next coef_at.tree ≡ db coef_at.tree ++ news → rows_that_count coef_at news ≡ map coef_columns xs
      → AreOfRuns t (λ (x : CoefRow). x.run) xs → AreNew coef_key t.coefs xs → Holds (with_coefs xs t) next
  coefs_behind only shaped xs behind news_are held new =
      let olds : Lined coef_at coef_columns (db coef_at.tree) t.coefs = lines_there t db was 4 coef_at coef_columns t.coefs refl refl in
      let fresh : Lined coef_at coef_columns news xs = new_lines t db was 4 coef_at coef_columns t.coefs refl refl next refl only shaped news xs behind news_are in
      record {
        contain = lines_behind t db was 4 coef_at coef_columns t.coefs refl refl next refl only shaped news xs behind news_are
            (record { alone = coefs_alone news xs fresh; unique = and_from _ _ (ap not (none_clash coef_at coef_columns coef_key (1 ∷ 2 ∷ 3 ∷ []) coef_key_read (db coef_at.tree) news (next coef_at.tree) t.coefs xs behind olds fresh new)) refl; parents = parents_there t db next was coef_at only refl coef_columns (λ (x : CoefRow). x.run) news xs (λ id x. refl) fresh held });
        below = was.below;
      }

  pub cells_behind : OnlyChanges schema_two db next thread_cell_at → IsShaped shape.Table (next thread_cell_at.tree) → (xs : List StoredCell) → next thread_cell_at.tree ≡ db thread_cell_at.tree ++ news → rows_that_count thread_cell_at news ≡ map cell_columns xs
      → AreOfRuns t (λ (x : StoredCell). x.run) xs → AreNew cell_key t.cells xs → Holds (with_cells xs t) next
  cells_behind only shaped xs behind news_are held new =
      let olds : Lined thread_cell_at cell_columns (db thread_cell_at.tree) t.cells = lines_there t db was 10 thread_cell_at cell_columns t.cells refl refl in
      let fresh : Lined thread_cell_at cell_columns news xs = new_lines t db was 10 thread_cell_at cell_columns t.cells refl refl next refl only shaped news xs behind news_are in
      record {
        contain = lines_behind t db was 10 thread_cell_at cell_columns t.cells refl refl next refl only shaped news xs behind news_are
            (record { alone = cells_alone news xs fresh; unique = and_from _ _ (ap not (none_clash thread_cell_at cell_columns cell_key (1 ∷ 5 ∷ 6 ∷ 4 ∷ 3 ∷ 2 ∷ 7 ∷ []) cell_key_read (db thread_cell_at.tree) news (next thread_cell_at.tree) t.cells xs behind olds fresh new)) refl; parents = parents_there t db next was thread_cell_at only refl cell_columns (λ (x : StoredCell). x.run) news xs (λ id x. refl) fresh held });
        below = was.below;
      }

  pub calls_behind : OnlyChanges schema_two db next arc_at → IsShaped shape.Table (next arc_at.tree) → (xs : List StoredCall) → next arc_at.tree ≡ db arc_at.tree ++ news → rows_that_count arc_at news ≡ map arc_columns xs
      → AreOfRuns t (λ (x : StoredCall). x.run) xs → AreNew call_key t.calls xs → Holds (with_calls xs t) next
  calls_behind only shaped xs behind news_are held new =
      let olds : Lined arc_at arc_columns (db arc_at.tree) t.calls = lines_there t db was 6 arc_at arc_columns t.calls refl refl in
      let fresh : Lined arc_at arc_columns news xs = new_lines t db was 6 arc_at arc_columns t.calls refl refl next refl only shaped news xs behind news_are in
      record {
        contain = lines_behind t db was 6 arc_at arc_columns t.calls refl refl next refl only shaped news xs behind news_are
            (record { alone = calls_alone news xs fresh; unique = and_from _ _ (ap not (none_clash arc_at arc_columns call_key (1 ∷ 2 ∷ 3 ∷ 4 ∷ 5 ∷ 6 ∷ 7 ∷ 8 ∷ 9 ∷ []) call_key_read (db arc_at.tree) news (next arc_at.tree) t.calls xs behind olds fresh new)) refl; parents = parents_there t db next was arc_at only refl arc_columns (λ (x : StoredCall). x.run) news xs (λ id x. refl) fresh held });
        below = was.below;
      }

  pub stacks_behind : OnlyChanges schema_two db next stack_at → IsShaped shape.Table (next stack_at.tree) → (xs : List StoredStack) → next stack_at.tree ≡ db stack_at.tree ++ news → rows_that_count stack_at news ≡ map stack_columns xs
      → AreOfRuns t (λ (x : StoredStack). x.run) xs → AreNew stack_key t.stacks xs → Holds (with_stacks xs t) next
  stacks_behind only shaped xs behind news_are held new =
      let olds : Lined stack_at stack_columns (db stack_at.tree) t.stacks = lines_there t db was 7 stack_at stack_columns t.stacks refl refl in
      let fresh : Lined stack_at stack_columns news xs = new_lines t db was 7 stack_at stack_columns t.stacks refl refl next refl only shaped news xs behind news_are in
      record {
        contain = lines_behind t db was 7 stack_at stack_columns t.stacks refl refl next refl only shaped news xs behind news_are
            (record { alone = stacks_alone news xs fresh; unique = and_from _ _ (ap not (none_clash stack_at stack_columns stack_key (1 ∷ 2 ∷ []) stack_key_read (db stack_at.tree) news (next stack_at.tree) t.stacks xs behind olds fresh new)) refl; parents = parents_there t db next was stack_at only refl stack_columns (λ (x : StoredStack). x.run) news xs (λ id x. refl) fresh held });
        below = was.below;
      }

  -- the same of lines of a run that is held and has none yet

  head_same : {x y : ℕ} {xs ys : List ℕ} → ◌≡◌ {A = List ℕ} (x ∷ xs) (y ∷ ys) → x ≡ y
  head_same h = cc

  module _ (n : ℕ) (held : has_run t n ≡ true) where
    pub events_of_run : OnlyChanges schema_two db next run_event_at → IsShaped shape.Table (next run_event_at.tree) → (xs : List EventRow) → next run_event_at.tree ≡ db run_event_at.tree ++ news → rows_that_count run_event_at news ≡ map event_columns xs
        → AreOfNewRun (λ (x : EventRow). x.run) n t.events xs → Differ event_key xs → Differ event_name_key xs → Holds (with_events xs t) next
    events_of_run only shaped xs behind news_are of_new first second =
        events_behind only shaped xs behind news_are (of_runs (λ (x : EventRow). x.run) n t.events xs of_new t held) (new_keys (λ (x : EventRow). x.run) n t.events xs of_new event_key (λ x y same. head_same same) first) (new_keys (λ (x : EventRow). x.run) n t.events xs of_new event_name_key (λ x y same. head_same same) second)

    pub derived_of_run : OnlyChanges schema_two db next derived_at → IsShaped shape.Table (next derived_at.tree) → (xs : List DerivedRow) → next derived_at.tree ≡ db derived_at.tree ++ news → rows_that_count derived_at news ≡ map derived_columns xs
        → AreOfNewRun (λ (x : DerivedRow). x.run) n t.derived xs → Differ derived_key xs → Differ derived_name_key xs → Holds (with_derived xs t) next
    derived_of_run only shaped xs behind news_are of_new first second =
        derived_behind only shaped xs behind news_are (of_runs (λ (x : DerivedRow). x.run) n t.derived xs of_new t held) (new_keys (λ (x : DerivedRow). x.run) n t.derived xs of_new derived_key (λ x y same. head_same same) first) (new_keys (λ (x : DerivedRow). x.run) n t.derived xs of_new derived_name_key (λ x y same. head_same same) second)

    pub coefs_of_run : OnlyChanges schema_two db next coef_at → IsShaped shape.Table (next coef_at.tree) → (xs : List CoefRow) → next coef_at.tree ≡ db coef_at.tree ++ news → rows_that_count coef_at news ≡ map coef_columns xs
        → AreOfNewRun (λ (x : CoefRow). x.run) n t.coefs xs → Differ coef_key xs → Holds (with_coefs xs t) next
    coefs_of_run only shaped xs behind news_are of_new new =
        coefs_behind only shaped xs behind news_are (of_runs (λ (x : CoefRow). x.run) n t.coefs xs of_new t held) (new_keys (λ (x : CoefRow). x.run) n t.coefs xs of_new coef_key (λ x y same. head_same same) new)

    pub cells_of_run : OnlyChanges schema_two db next thread_cell_at → IsShaped shape.Table (next thread_cell_at.tree) → (xs : List StoredCell) → next thread_cell_at.tree ≡ db thread_cell_at.tree ++ news → rows_that_count thread_cell_at news ≡ map cell_columns xs
        → AreOfNewRun (λ (x : StoredCell). x.run) n t.cells xs → Differ cell_key xs → Holds (with_cells xs t) next
    cells_of_run only shaped xs behind news_are of_new new =
        cells_behind only shaped xs behind news_are (of_runs (λ (x : StoredCell). x.run) n t.cells xs of_new t held) (new_keys (λ (x : StoredCell). x.run) n t.cells xs of_new cell_key (λ x y same. head_same same) new)

    pub calls_of_run : OnlyChanges schema_two db next arc_at → IsShaped shape.Table (next arc_at.tree) → (xs : List StoredCall) → next arc_at.tree ≡ db arc_at.tree ++ news → rows_that_count arc_at news ≡ map arc_columns xs
        → AreOfNewRun (λ (x : StoredCall). x.run) n t.calls xs → Differ call_key xs → Holds (with_calls xs t) next
    calls_of_run only shaped xs behind news_are of_new new =
        calls_behind only shaped xs behind news_are (of_runs (λ (x : StoredCall). x.run) n t.calls xs of_new t held) (new_keys (λ (x : StoredCall). x.run) n t.calls xs of_new call_key (λ x y same. head_same same) new)

    pub stacks_of_run : OnlyChanges schema_two db next stack_at → IsShaped shape.Table (next stack_at.tree) → (xs : List StoredStack) → next stack_at.tree ≡ db stack_at.tree ++ news → rows_that_count stack_at news ≡ map stack_columns xs
        → AreOfNewRun (λ (x : StoredStack). x.run) n t.stacks xs → Differ stack_key xs → Holds (with_stacks xs t) next
    stacks_of_run only shaped xs behind news_are of_new new =
        stacks_behind only shaped xs behind news_are (of_runs (λ (x : StoredStack). x.run) n t.stacks xs of_new t held) (new_keys (λ (x : StoredStack). x.run) n t.stacks xs of_new stack_key (λ x y same. head_same same) new)
