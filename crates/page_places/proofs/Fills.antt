-- A table and its indexes are filled with the rows of a run that is held and has none yet, or with new names.
use Rattle.std.proofs.Common.{◌≡◌, ◌≢◌, ℕ, List, [], ◌∷◌, ◌++◌, map, true, false, bytes_eq, refl, sym, subst}
use Rattle.std.specs.List.{AllByRecursion}
use Rattle.std.proofs.lemmas.Bool.{both_ways}
use Rattle.std.proofs.lemmas.List.Sorted.{IsPermutation-trans}
use Rattle.std.proofs.lemmas.Slice.Eq.{bytes_eq-Decides}
use Rattle.sqlite_value.specs.Order.{Row}
use Rattle.sqlite_trees.specs.Tree.{Trees}
use Rattle.sqlite_trees.specs.View.{IsShaped}
use Rattle.sqlite_trees.specs.declared.store.Shape.TheVariants as shape
use Rattle.sqlite_rules.proofs.ListLemmas.{all_from, all_has, some_from}
use Rattle.sqlite_sql.specs.Catalog.{IsIndexOf}
use Rattle.sql_tables.specs.Contents.{rows_that_count}
use Rattle.plain_tables.specs.Changes.{has_name, has_run, with_calls, with_cells, with_coefs, with_derived, with_events, with_stacks}
use Rattle.plain_tables.specs.Tables.{Tables, EventRow, DerivedRow, CoefRow, NameRow, StoredCell, StoredCall, StoredStack}
use Rattle.prof_store.specs.Schema.{run_event_at, derived_at, coef_at, name_at, thread_cell_at, arc_at, stack_at}
use Rattle.prof_store.specs.Tables.{Holds, event_columns, derived_columns, coef_columns, name_columns, cell_columns, arc_columns, stack_columns}
use Rattle.page_places.specs.TableChanges.{SparesBut}
use Rattle.page_places.specs.Fills.{Fills}
use Rattle.page_places.specs.Keys.{AreOfNewRun}
use Rattle.page_places.proofs.Contents.{Lined}
use Rattle.page_places.proofs.Distinct.{events_differ, event_names_differ, derived_differ, derived_names_differ, coefs_differ, names_differ, cells_differ, calls_differ, stacks_differ}
use Rattle.page_places.proofs.Entries.{entries_behind}
use Rattle.page_places.proofs.Lines.{new_lines}
use Rattle.page_places.proofs.Numbered.{names_behind}
use Rattle.page_places.proofs.OfRuns.{calls_of_run, cells_of_run, coefs_of_run, derived_of_run, events_of_run, stacks_of_run}
use Rattle.page_places.proofs.Only.{only_calls, only_cells, only_coefs, only_derived, only_events, only_names, only_stacks}

-- an index has the entries of the new rows behind, or among, its own
filled_index : (places : List ℕ) (count : ℕ) (olds news old_entries new_entries rows : List Row) → rows ≡ olds ++ news → IsIndexOf places olds old_entries → Fills places count news old_entries new_entries → IsIndexOf places rows new_entries
filled_index places count olds news old_entries new_entries rows are was fills =
    subst (λ l. IsIndexOf places l new_entries) (sym are) (IsPermutation-trans _ _ _ (entries_behind places olds news old_entries fills.entries was fills.are_of) fills.placed)

module _ (t : Tables) (db next : Trees) (was : Holds t db) (n : ℕ) (held : has_run t n ≡ true) (news : List Row) where
  pub events_filled : (xs : List EventRow) → SparesBut (3 ∷ 4 ∷ 5 ∷ []) db next → IsShaped shape.Table (next 3) → next 3 ≡ db 3 ++ news → rows_that_count run_event_at news ≡ map event_columns xs
      → AreOfNewRun (λ (x : EventRow). x.run) n t.events xs → Fills (1 ∷ 2 ∷ []) 2 news (db 4) (next 4) → Fills (1 ∷ 3 ∷ []) 2 news (db 5) (next 5) → Holds (with_events xs t) next
  events_filled xs spared shaped behind news_are of_new first second =
      let only = only_events db next was.contain.sound spared (filled_index (1 ∷ 2 ∷ []) 2 (db 3) news (db 4) (next 4) (next 3) behind was.contain.sound.obeys.indexed.1.0 first) (filled_index (1 ∷ 3 ∷ []) 2 (db 3) news (db 5) (next 5) (next 3) behind was.contain.sound.obeys.indexed.1.1.0 second) in
      let lines : Lined run_event_at event_columns news xs = new_lines t db was 2 run_event_at event_columns t.events refl refl next refl only shaped news xs behind news_are in
      events_of_run t db next was news n held only shaped xs behind news_are of_new (events_differ news xs first.entries lines first.are_of first.differ) (event_names_differ news xs second.entries lines second.are_of second.differ)

  pub derived_filled : (xs : List DerivedRow) → SparesBut (6 ∷ 7 ∷ 8 ∷ []) db next → IsShaped shape.Table (next 6) → next 6 ≡ db 6 ++ news → rows_that_count derived_at news ≡ map derived_columns xs
      → AreOfNewRun (λ (x : DerivedRow). x.run) n t.derived xs → Fills (1 ∷ 2 ∷ []) 2 news (db 7) (next 7) → Fills (1 ∷ 3 ∷ []) 2 news (db 8) (next 8) → Holds (with_derived xs t) next
  derived_filled xs spared shaped behind news_are of_new first second =
      let only = only_derived db next was.contain.sound spared (filled_index (1 ∷ 2 ∷ []) 2 (db 6) news (db 7) (next 7) (next 6) behind was.contain.sound.obeys.indexed.1.1.1.0 first) (filled_index (1 ∷ 3 ∷ []) 2 (db 6) news (db 8) (next 8) (next 6) behind was.contain.sound.obeys.indexed.1.1.1.1.0 second) in
      let lines : Lined derived_at derived_columns news xs = new_lines t db was 3 derived_at derived_columns t.derived refl refl next refl only shaped news xs behind news_are in
      derived_of_run t db next was news n held only shaped xs behind news_are of_new (derived_differ news xs first.entries lines first.are_of first.differ) (derived_names_differ news xs second.entries lines second.are_of second.differ)

  pub coefs_filled : (xs : List CoefRow) → SparesBut (9 ∷ 10 ∷ []) db next → IsShaped shape.Table (next 9) → next 9 ≡ db 9 ++ news → rows_that_count coef_at news ≡ map coef_columns xs
      → AreOfNewRun (λ (x : CoefRow). x.run) n t.coefs xs → Fills (1 ∷ 2 ∷ 3 ∷ []) 3 news (db 10) (next 10) → Holds (with_coefs xs t) next
  coefs_filled xs spared shaped behind news_are of_new filled =
      let only = only_coefs db next was.contain.sound spared (filled_index (1 ∷ 2 ∷ 3 ∷ []) 3 (db 9) news (db 10) (next 10) (next 9) behind was.contain.sound.obeys.indexed.1.1.1.1.1.0 filled) in
      let lines : Lined coef_at coef_columns news xs = new_lines t db was 4 coef_at coef_columns t.coefs refl refl next refl only shaped news xs behind news_are in
      coefs_of_run t db next was news n held only shaped xs behind news_are of_new (coefs_differ news xs filled.entries lines filled.are_of filled.differ)

  pub cells_filled : (xs : List StoredCell) → SparesBut (23 ∷ 24 ∷ []) db next → IsShaped shape.Table (next 23) → next 23 ≡ db 23 ++ news → rows_that_count thread_cell_at news ≡ map cell_columns xs
      → AreOfNewRun (λ (x : StoredCell). x.run) n t.cells xs → Fills (1 ∷ 5 ∷ 6 ∷ 4 ∷ 3 ∷ 2 ∷ 7 ∷ []) 7 news (db 24) (next 24) → Holds (with_cells xs t) next
  cells_filled xs spared shaped behind news_are of_new filled =
      let only = only_cells db next was.contain.sound spared (filled_index (1 ∷ 5 ∷ 6 ∷ 4 ∷ 3 ∷ 2 ∷ 7 ∷ []) 7 (db 23) news (db 24) (next 24) (next 23) behind was.contain.sound.obeys.indexed.1.1.1.1.1.1.1.1.1.1.1.0 filled) in
      let lines : Lined thread_cell_at cell_columns news xs = new_lines t db was 10 thread_cell_at cell_columns t.cells refl refl next refl only shaped news xs behind news_are in
      cells_of_run t db next was news n held only shaped xs behind news_are of_new (cells_differ news xs filled.entries lines filled.are_of filled.differ)

  pub calls_filled : (xs : List StoredCall) → SparesBut (15 ∷ 16 ∷ []) db next → IsShaped shape.Table (next 15) → next 15 ≡ db 15 ++ news → rows_that_count arc_at news ≡ map arc_columns xs
      → AreOfNewRun (λ (x : StoredCall). x.run) n t.calls xs → Fills (1 ∷ 2 ∷ 3 ∷ 4 ∷ 5 ∷ 6 ∷ 7 ∷ 8 ∷ 9 ∷ []) 9 news (db 16) (next 16) → Holds (with_calls xs t) next
  calls_filled xs spared shaped behind news_are of_new filled =
      let only = only_calls db next was.contain.sound spared (filled_index (1 ∷ 2 ∷ 3 ∷ 4 ∷ 5 ∷ 6 ∷ 7 ∷ 8 ∷ 9 ∷ []) 9 (db 15) news (db 16) (next 16) (next 15) behind was.contain.sound.obeys.indexed.1.1.1.1.1.1.1.0 filled) in
      let lines : Lined arc_at arc_columns news xs = new_lines t db was 6 arc_at arc_columns t.calls refl refl next refl only shaped news xs behind news_are in
      calls_of_run t db next was news n held only shaped xs behind news_are of_new (calls_differ news xs filled.entries lines filled.are_of filled.differ)

  pub stacks_filled : (xs : List StoredStack) → SparesBut (17 ∷ 18 ∷ []) db next → IsShaped shape.Table (next 17) → next 17 ≡ db 17 ++ news → rows_that_count stack_at news ≡ map stack_columns xs
      → AreOfNewRun (λ (x : StoredStack). x.run) n t.stacks xs → Fills (1 ∷ 2 ∷ []) 2 news (db 18) (next 18) → Holds (with_stacks xs t) next
  stacks_filled xs spared shaped behind news_are of_new filled =
      let only = only_stacks db next was.contain.sound spared (filled_index (1 ∷ 2 ∷ []) 2 (db 17) news (db 18) (next 18) (next 17) behind was.contain.sound.obeys.indexed.1.1.1.1.1.1.1.1.0 filled) in
      let lines : Lined stack_at stack_columns news xs = new_lines t db was 7 stack_at stack_columns t.stacks refl refl next refl only shaped news xs behind news_are in
      stacks_of_run t db next was news n held only shaped xs behind news_are of_new (stacks_differ news xs filled.entries lines filled.are_of filled.differ)

module _ (t : Tables) (db next : Trees) (was : Holds t db) (xs : List NameRow) (none : AllByRecursion (λ (x : NameRow). has_name t x.name ≡ false) xs) where
  -- none of the names is that of a line that is there
  names_apart : AllByRecursion (λ (x : NameRow). AllByRecursion (λ (y : NameRow). x.name ≢ y.name) xs) t.names
  names_apart = all_from _ t.names (λ x there. all_from _ xs (λ y fresh same.
      both_ways _ (all_has (λ (z : NameRow). has_name t z.name ≡ false) xs y none fresh) (some_from (λ (z : NameRow). bytes_eq z.name y.name) t.names x there ((bytes_eq-Decides x.name y.name).1 same))))

  pub names_filled : SparesBut (11 ∷ 12 ∷ []) db next → IsShaped shape.Table (next 11) → next 11 ≡ db 11 ++ map name_columns xs → Fills (2 ∷ []) 1 (map name_columns xs) (db 12) (next 12) → Holds (record t { names = t.names ++ xs }) next
  names_filled spared shaped behind filled =
      let news : List Row = map name_columns xs in
      let only = only_names db next was.contain.sound spared (filled_index (2 ∷ []) 1 (db 11) news (db 12) (next 12) (next 11) behind was.contain.sound.obeys.indexed.1.1.1.1.1.1.0 filled) in
      let lines : Lined name_at name_columns news xs = new_lines t db was 5 name_at name_columns t.names refl refl next refl only shaped news xs behind refl in
      names_behind t db next was only shaped xs behind (record { apart = names_apart; among = names_differ news xs filled.entries lines filled.are_of filled.differ })
