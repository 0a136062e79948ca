-- The rows of a run are taken out of the tables, and at last its own row.
use Rattle.std.proofs.Common.{◌≡◌, ◌≢◌, ℕ, ℤ, pos, List, [], ◌∷◌, map, filter, Bool, true, false, not, ◌||◌, ◌==◌, ◌<◌, if◌then◌else◌, cond, codes, is_eq, int_cmp, Option, Some, None, refl, sym, ap, subst, ◌∙◌, arith}
use Rattle.std.specs.List.{list_any}
use Rattle.std.proofs.lemmas.Bool.{both_ways, eq-eqb, eqb-true, false_from_ne_true, not_from_false, or_left}
use Rattle.std.proofs.lemmas.Bool.Decides.{nat_tests}
use Rattle.std.proofs.lemmas.Int.{ints}
use Rattle.sqlite_tied.specs.Compute.{everything}
use Rattle.sqlite_value.specs.declared.value.Value.TheVariants.{Int}
use Rattle.sqlite_value.specs.Keys.{plain}
use Rattle.sqlite_value.specs.Order.{Row, column}
use Rattle.sqlite_value.proofs.OrderLemmas.{value_cmp-Int}
use Rattle.sqlite_trees.specs.Tree.{Trees, has_rowid, without_rowid}
use Rattle.sqlite_trees.specs.View.{IsShaped}
use Rattle.sqlite_trees.specs.declared.store.Shape.TheVariants as shape
use Rattle.sqlite_trees.proofs.ListLemmas.{all-filter}
use Rattle.sqlite_sql.specs.Ops.{is_null}
use Rattle.sqlite_schema.specs.declared.schema.Reference.{Reference}
use Rattle.sqlite_schema.specs.declared.schema.Table.{Table}
use Rattle.sqlite_schema.specs.Rules.{has_parent, parent_key}
use Rattle.sqlite_rules.specs.Lists.{Has}
use Rattle.sqlite_rules.proofs.ListLemmas.{all_has, has_kept, some_from, some_has}
use Rattle.sqlite_rules.proofs.ProbeLemmas.{has_mapped}
use Rattle.sql_tables.proofs.Deletes.{row_of}
use Rattle.sql_tables.proofs.Rows.{filter_same_on, id_of}
use Rattle.plain_tables.specs.Changes.{has_baseline, has_run, is_baseline, unbased, without_run}
use Rattle.plain_tables.specs.Tables.{Tables, RunRow, EventRow, DerivedRow, CoefRow, StoredCell, StoredCall, StoredStack, GroupRow, MemberRow}
use Rattle.prof_store.specs.Schema.{schema_two, to, run_at, run_event_at, derived_at, coef_at, thread_cell_at, arc_at, stack_at, grp_at, member_at}
use Rattle.prof_store.specs.Tables.{Holds, run_columns, event_columns, derived_columns, coef_columns, cell_columns, arc_columns, stack_columns, group_columns, member_columns, number, number_or_null}
use Rattle.prof_store.proofs.Sound.{sound_of}
use Rattle.page_places.specs.TableChanges.{OnlyChanges, StillRefer}
use Rattle.page_places.specs.Unused.{IsUnused, but_its_row}
use Rattle.page_places.proofs.Contents.{Lined, line_of}
use Rattle.page_places.proofs.Lines.{lines_filtered, lines_there, none_left}
use Rattle.page_places.proofs.References.{group_refers, member_refers}
use Rattle.page_places.proofs.Store.{baseline_key, baseline_of, groups_lined, members_lined, other_stays, run_key, run_parent, runs_there}
use Rattle.page_places.proofs.TakenOut.{still_unreferred}

no_events_refer : (next : Trees) → StillRefer schema_two next run_event_at
unfolding everything
no_events_refer next = still_unreferred schema_two next run_event_at refl

no_derived_refer : (next : Trees) → StillRefer schema_two next derived_at
unfolding everything
no_derived_refer next = still_unreferred schema_two next derived_at refl

no_coefs_refer : (next : Trees) → StillRefer schema_two next coef_at
unfolding everything
no_coefs_refer next = still_unreferred schema_two next coef_at refl

no_cells_refer : (next : Trees) → StillRefer schema_two next thread_cell_at
unfolding everything
no_cells_refer next = still_unreferred schema_two next thread_cell_at refl

no_calls_refer : (next : Trees) → StillRefer schema_two next arc_at
unfolding everything
no_calls_refer next = still_unreferred schema_two next arc_at refl

no_stacks_refer : (next : Trees) → StillRefer schema_two next stack_at
unfolding everything
no_stacks_refer next = still_unreferred schema_two next stack_at refl

-- ---- the rows of a run, beside its lines

module _ (t : Tables) (db next : Trees) (was : Holds t db) (n : ℕ) (keep : Row → Bool) where
  pub events_taken_out : OnlyChanges schema_two db next run_event_at → IsShaped shape.Table (next run_event_at.tree) → next run_event_at.tree ≡ filter keep (db run_event_at.tree)
      → ((id : ℤ) (x : EventRow) → Has (db run_event_at.tree) (Int id ∷ event_columns x) → keep (Int id ∷ event_columns x) ≡ not (x.run == n)) → Holds (record t { events = filter (λ (x : EventRow). not (x.run == n)) t.events }) next
  events_taken_out only shaped left same = record {
    contain = lines_filtered t db was 2 run_event_at event_columns t.events refl refl next refl only shaped keep (λ x. not (x.run == n)) left same (no_events_refer next);
    below = was.below;
  }

  pub derived_taken_out : OnlyChanges schema_two db next derived_at → IsShaped shape.Table (next derived_at.tree) → next derived_at.tree ≡ filter keep (db derived_at.tree)
      → ((id : ℤ) (x : DerivedRow) → Has (db derived_at.tree) (Int id ∷ derived_columns x) → keep (Int id ∷ derived_columns x) ≡ not (x.run == n)) → Holds (record t { derived = filter (λ (x : DerivedRow). not (x.run == n)) t.derived }) next
  derived_taken_out only shaped left same = record {
    contain = lines_filtered t db was 3 derived_at derived_columns t.derived refl refl next refl only shaped keep (λ x. not (x.run == n)) left same (no_derived_refer next);
    below = was.below;
  }

  pub coefs_taken_out : OnlyChanges schema_two db next coef_at → IsShaped shape.Table (next coef_at.tree) → next coef_at.tree ≡ filter keep (db coef_at.tree)
      → ((id : ℤ) (x : CoefRow) → Has (db coef_at.tree) (Int id ∷ coef_columns x) → keep (Int id ∷ coef_columns x) ≡ not (x.run == n)) → Holds (record t { coefs = filter (λ (x : CoefRow). not (x.run == n)) t.coefs }) next
  coefs_taken_out only shaped left same = record {
    contain = lines_filtered t db was 4 coef_at coef_columns t.coefs refl refl next refl only shaped keep (λ x. not (x.run == n)) left same (no_coefs_refer next);
    below = was.below;
  }

  pub cells_taken_out : OnlyChanges schema_two db next thread_cell_at → IsShaped shape.Table (next thread_cell_at.tree) → next thread_cell_at.tree ≡ filter keep (db thread_cell_at.tree)
      → ((id : ℤ) (x : StoredCell) → Has (db thread_cell_at.tree) (Int id ∷ cell_columns x) → keep (Int id ∷ cell_columns x) ≡ not (x.run == n)) → Holds (record t { cells = filter (λ (x : StoredCell). not (x.run == n)) t.cells }) next
  cells_taken_out only shaped left same = record {
    contain = lines_filtered t db was 10 thread_cell_at cell_columns t.cells refl refl next refl only shaped keep (λ x. not (x.run == n)) left same (no_cells_refer next);
    below = was.below;
  }

  pub calls_taken_out : OnlyChanges schema_two db next arc_at → IsShaped shape.Table (next arc_at.tree) → next arc_at.tree ≡ filter keep (db arc_at.tree)
      → ((id : ℤ) (x : StoredCall) → Has (db arc_at.tree) (Int id ∷ arc_columns x) → keep (Int id ∷ arc_columns x) ≡ not (x.run == n)) → Holds (record t { calls = filter (λ (x : StoredCall). not (x.run == n)) t.calls }) next
  calls_taken_out only shaped left same = record {
    contain = lines_filtered t db was 6 arc_at arc_columns t.calls refl refl next refl only shaped keep (λ x. not (x.run == n)) left same (no_calls_refer next);
    below = was.below;
  }

  pub stacks_taken_out : OnlyChanges schema_two db next stack_at → IsShaped shape.Table (next stack_at.tree) → next stack_at.tree ≡ filter keep (db stack_at.tree)
      → ((id : ℤ) (x : StoredStack) → Has (db stack_at.tree) (Int id ∷ stack_columns x) → keep (Int id ∷ stack_columns x) ≡ not (x.run == n)) → Holds (record t { stacks = filter (λ (x : StoredStack). not (x.run == n)) t.stacks }) next
  stacks_taken_out only shaped left same = record {
    contain = lines_filtered t db was 7 stack_at stack_columns t.stacks refl refl next refl only shaped keep (λ x. not (x.run == n)) left same (no_stacks_refer next);
    below = was.below;
  }

-- ---- the run's own row

filter-map : (p : Row → Bool) (f : RunRow → Row) (xs : List RunRow) → filter p (map f xs) ≡ map f (filter (λ x. p (f x)) xs)
filter-map p f [] = refl
filter-map p f (x ∷ xs) =
    elim (p (f x)) as (λ b. cond b (f x ∷ filter p (map f xs)) (filter p (map f xs)) ≡ map f (cond b (x ∷ filter (λ y. p (f y)) xs) (filter (λ y. p (f y)) xs)))
    [ true ↦ ap (λ l. f x ∷ l) (filter-map p f xs) | false ↦ filter-map p f xs ]

-- another run is left
left_run : (runs : List RunRow) (n m : ℕ) → m ≢ n → list_any (λ (r : RunRow). r.number == m) runs ≡ true → list_any (λ (r : RunRow). r.number == m) (filter (λ (r : RunRow). not (r.number == n)) runs) ≡ true
left_run runs n m other held =
    let r = some_has (λ (r : RunRow). r.number == m) runs held in
    let stays : not (r.0.number == n) ≡ true = not_from_false _ (false_from_ne_true _ (λ is. other (sym (eqb-true r.0.number m r.2) ∙ eqb-true r.0.number n is))) in
    some_from (λ (r : RunRow). r.number == m) (filter (λ (r : RunRow). not (r.number == n)) runs) r.0 (has_kept (λ (r : RunRow). not (r.number == n)) runs r.0 r.1 stays) r.2

is_other : {X : Type 0} (run : X → ℕ) (xs : List X) (n : ℕ) (x : X) → list_any (λ y. run y == n) xs ≡ false → Has xs x → run x ≢ n
is_other run xs n x none there is = both_ways _ none (some_from (λ y. run y == n) xs x there (eq-eqb (run x) n is))

module _ (t : Tables) (db next : Trees) (was : Holds t db) (n : ℕ) (unused : IsUnused n t) (only : OnlyChanges schema_two db next run_at) (left : next 1 ≡ map run_columns (filter (λ (r : RunRow). not (r.number == n)) t.runs)) where
  -- a row of another run still has its parent
  still_of : {X : Type 0} (table : Table) (columns : X → Row) (run : X → ℕ) (xs : List X) (place : ℕ) (ref : Reference) → parent_key schema_two.tables ref ≡ Some (1, 0 ∷ [], plain) → ref.columns ≡ place ∷ []
      → ((id : ℤ) (x : X) → column (row_of table columns (Int id) x) place ≡ number (run x)) → Lined table columns (db table.tree) xs → next table.tree ≡ db table.tree
      → ((x : X) → Has xs x → (has_run t (run x) ≡ true) × (run x ≢ n)) → (row : Row) → Has (next table.tree) row → has_parent schema_two.tables next row ref ≡ true
  still_of table columns run xs place ref key at columns_are lines same held row there =
      let x = line_of table columns (db table.tree) xs lines row (subst (λ l. Has l row) same there) in
      let it = held x.0 x.1 in
      run_parent next (filter (λ (r : RunRow). not (r.number == n)) t.runs) left (run x.0) place ref key at (left_run t.runs n (run x.0) it.1 it.0) row (ap (λ l. column l place) x.2 ∙ columns_are (id_of row) x.0)

  still_events : (row : Row) → Has (next run_event_at.tree) row → has_parent schema_two.tables next row (to (codes "run") 1) ≡ true
  still_events = still_of run_event_at event_columns (λ (x : EventRow). x.run) t.events 1 (to (codes "run") 1) (run_key 1) refl (λ id x. refl) (lines_there t db was 2 run_event_at event_columns t.events refl refl) (other_stays db next run_at only 2 run_event_at refl refl)
      (λ x there. (all_has (λ (y : EventRow). has_run t y.run ≡ true) t.events x (sound_of t db was).events there, is_other (λ (y : EventRow). y.run) t.events n x unused.events there))

  still_derived : (row : Row) → Has (next derived_at.tree) row → has_parent schema_two.tables next row (to (codes "run") 1) ≡ true
  still_derived = still_of derived_at derived_columns (λ (x : DerivedRow). x.run) t.derived 1 (to (codes "run") 1) (run_key 1) refl (λ id x. refl) (lines_there t db was 3 derived_at derived_columns t.derived refl refl) (other_stays db next run_at only 3 derived_at refl refl)
      (λ x there. (all_has (λ (y : DerivedRow). has_run t y.run ≡ true) t.derived x (sound_of t db was).derived there, is_other (λ (y : DerivedRow). y.run) t.derived n x unused.derived there))

  still_coefs : (row : Row) → Has (next coef_at.tree) row → has_parent schema_two.tables next row (to (codes "run") 1) ≡ true
  still_coefs = still_of coef_at coef_columns (λ (x : CoefRow). x.run) t.coefs 1 (to (codes "run") 1) (run_key 1) refl (λ id x. refl) (lines_there t db was 4 coef_at coef_columns t.coefs refl refl) (other_stays db next run_at only 4 coef_at refl refl)
      (λ x there. (all_has (λ (y : CoefRow). has_run t y.run ≡ true) t.coefs x (sound_of t db was).coefs there, is_other (λ (y : CoefRow). y.run) t.coefs n x unused.coefs there))

  still_cells : (row : Row) → Has (next thread_cell_at.tree) row → has_parent schema_two.tables next row (to (codes "run") 1) ≡ true
  still_cells = still_of thread_cell_at cell_columns (λ (x : StoredCell). x.run) t.cells 1 (to (codes "run") 1) (run_key 1) refl (λ id x. refl) (lines_there t db was 10 thread_cell_at cell_columns t.cells refl refl) (other_stays db next run_at only 10 thread_cell_at refl refl)
      (λ x there. (all_has (λ (y : StoredCell). has_run t y.run ≡ true) t.cells x (sound_of t db was).cells there, is_other (λ (y : StoredCell). y.run) t.cells n x unused.cells there))

  still_calls : (row : Row) → Has (next arc_at.tree) row → has_parent schema_two.tables next row (to (codes "run") 1) ≡ true
  still_calls = still_of arc_at arc_columns (λ (x : StoredCall). x.run) t.calls 1 (to (codes "run") 1) (run_key 1) refl (λ id x. refl) (lines_there t db was 6 arc_at arc_columns t.calls refl refl) (other_stays db next run_at only 6 arc_at refl refl)
      (λ x there. (all_has (λ (y : StoredCall). has_run t y.run ≡ true) t.calls x (sound_of t db was).calls there, is_other (λ (y : StoredCall). y.run) t.calls n x unused.calls there))

  still_stacks : (row : Row) → Has (next stack_at.tree) row → has_parent schema_two.tables next row (to (codes "run") 1) ≡ true
  still_stacks = still_of stack_at stack_columns (λ (x : StoredStack). x.run) t.stacks 1 (to (codes "run") 1) (run_key 1) refl (λ id x. refl) (lines_there t db was 7 stack_at stack_columns t.stacks refl refl) (other_stays db next run_at only 7 stack_at refl refl)
      (λ x there. (all_has (λ (y : StoredStack). has_run t y.run ≡ true) t.stacks x (sound_of t db was).stacks there, is_other (λ (y : StoredStack). y.run) t.stacks n x unused.stacks there))

  still_members : (row : Row) → Has (next member_at.tree) row → has_parent schema_two.tables next row (to (codes "run") 2) ≡ true
  still_members = still_of member_at member_columns (λ (m : MemberRow). m.run) t.members 2 (to (codes "run") 2) (run_key 2) refl (λ id x. refl) (members_lined t db was) (other_stays db next run_at only 9 member_at refl refl)
      (λ m there. ((member_refers t db was m there).1, is_other (λ (y : MemberRow). y.run) t.members n m unused.members there))

  still_groups : (row : Row) → Has (next grp_at.tree) row → has_parent schema_two.tables next row baseline_of ≡ true
  still_groups row there =
      let g = line_of grp_at group_columns (db 19) t.groups (groups_lined t db was) row (subst (λ l. Has l row) (other_stays db next run_at only 8 grp_at refl refl) there) in
      go g.0.baseline (ap (λ l. column l 2) g.2) (λ m is. (group_refers t db was g.0 m g.1 is, λ same. both_ways _ unused.groups (some_from (has_baseline n) t.groups g.0 g.1 (ap (is_baseline n) is ∙ eq-eqb m n same))))
    where
      go : (b : Option ℕ) → column row 2 ≡ number_or_null b → ((m : ℕ) → b ≡ Some m → (has_run t m ≡ true) × (m ≢ n)) → has_parent schema_two.tables next row baseline_of ≡ true
      go None is held = or_left _ _ (ap (λ v. is_null v || false) is)
      go (Some m) is held =
          let it = held m refl in run_parent next (filter (λ (r : RunRow). not (r.number == n)) t.runs) left m 2 baseline_of baseline_key refl (left_run t.runs n m it.1 it.0) row is

  still_refer : StillRefer schema_two next run_at
  unfolding everything
  still_refer = (tt, (tt, ((still_events, tt), ((still_derived, tt), ((still_coefs, tt), (tt, ((still_calls, tt), ((still_stacks, tt), ((still_groups, tt), ((tt, (still_members, tt)), ((still_cells, tt), tt)))))))))))

one_run : (a b : RunRow) → run_columns a ≡ run_columns b → a ≡ b
one_run a b h =
    let number_is : a.number ≡ b.number = cc in
    let kind_is : a.kind ≡ b.kind = cc in
    let digest_is : a.digest ≡ b.digest = cc in
    let label_is : a.label ≡ b.label = cc in
    let count_is : a.call_count ≡ b.call_count = cc in
    ap (λ x. record a { number = x }) number_is ∙ ap (λ x. record b { kind = x; digest = a.digest; label = a.label; call_count = a.call_count }) kind_is
    ∙ ap (λ x. record b { digest = x; label = a.label; call_count = a.call_count }) digest_is ∙ ap (λ x. record b { label = x; call_count = a.call_count }) label_is ∙ ap (λ x. record b { call_count = x }) count_is

-- a run's rowid is its number
number_found : (n m : ℕ) → is_eq (int_cmp (pos m) (pos n)) ≡ (m == n)
number_found n m = grind (arith, ints, nat_tests)

run_by_id : (n : ℕ) (r : RunRow) → has_rowid (pos n) (run_columns r) ≡ (r.number == n)
run_by_id n r = ap is_eq (value_cmp-Int (pos r.number) (pos n)) ∙ number_found n r.number

module _ (t : Tables) (db next : Trees) (was : Holds t db) (n : ℕ) (unused : IsUnused n t) (only : OnlyChanges schema_two db next run_at) (shaped : IsShaped shape.Table (next run_at.tree)) where
  pub run_taken_out : (keep : Row → Bool) → next run_at.tree ≡ filter keep (db run_at.tree) → ((r : RunRow) → Has t.runs r → keep (run_columns r) ≡ not (r.number == n))
      → Holds (record t { runs = filter (λ (r : RunRow). not (r.number == n)) t.runs }) next
  run_taken_out keep left same =
      let kept = λ (r : RunRow). not (r.number == n) in
      let rows : filter keep (db 1) ≡ map run_columns (filter kept t.runs) = ap (filter keep) (runs_there t db was) ∙ filter-map keep run_columns t.runs ∙ ap (map run_columns) (filter_same_on (λ r. keep (run_columns r)) kept t.runs same) in
      record {
        contain = lines_filtered t db was 1 run_at run_columns t.runs refl refl next refl only shaped keep kept left (λ id r there. same r (line_there r there)) (still_refer t db next was n unused only (left ∙ rows));
        below = all-filter (λ (r : RunRow). r.number < t.next) kept t.runs was.below;
      }
    where
      line_there : (r : RunRow) → Has (db 1) (run_columns r) → Has t.runs r
      line_there r there =
          let x = has_mapped run_columns t.runs (run_columns r) (subst (λ l. Has l (run_columns r)) (runs_there t db was) there) in subst (Has t.runs) (sym (one_run r x.0 x.2)) x.1

  pub run_removed : next run_at.tree ≡ without_rowid (pos n) (db run_at.tree) → Holds (record t { runs = filter (λ (r : RunRow). not (r.number == n)) t.runs }) next
  run_removed left = run_taken_out (λ r. not (has_rowid (pos n) r)) left (λ r there. ap not (run_by_id n r))

-- ---- a run goes: first all that is of it, then its row

none_based : (n : ℕ) (groups : List GroupRow) → list_any (has_baseline n) (map (λ g. if has_baseline n g then unbased g else g) groups) ≡ false
none_based n [] = refl
none_based n (g ∷ groups) = go (has_baseline n g) refl (none_based n groups)
  where
    go : (b : Bool) → has_baseline n g ≡ b → list_any (has_baseline n) (map (λ x. if has_baseline n x then unbased x else x) groups) ≡ false
        → (has_baseline n (if b then unbased g else g) || list_any (has_baseline n) (map (λ x. if has_baseline n x then unbased x else x) groups)) ≡ false
    go true e more = more
    go false e more = ap (λ b. b || list_any (has_baseline n) (map (λ x. if has_baseline n x then unbased x else x) groups)) e ∙ more

pub unused_but_its_row : (n : ℕ) (t : Tables) → IsUnused n (but_its_row n t)
unused_but_its_row n t = record {
  events = none_left (λ (x : EventRow). x.run == n) t.events;
  derived = none_left (λ (x : DerivedRow). x.run == n) t.derived;
  coefs = none_left (λ (x : CoefRow). x.run == n) t.coefs;
  cells = none_left (λ (x : StoredCell). x.run == n) t.cells;
  calls = none_left (λ (x : StoredCall). x.run == n) t.calls;
  stacks = none_left (λ (x : StoredStack). x.run == n) t.stacks;
  members = none_left (λ (x : MemberRow). x.run == n) t.members;
  groups = none_based n t.groups;
}

pub without_run_from : (n : ℕ) (t : Tables) (db next : Trees) → Holds (but_its_row n t) db → OnlyChanges schema_two db next run_at → IsShaped shape.Table (next run_at.tree) → next run_at.tree ≡ without_rowid (pos n) (db run_at.tree)
    → Holds (without_run n t) next
without_run_from n t db next was only shaped left = run_removed (but_its_row n t) db next was n (unused_but_its_row n t) only shaped left
