-- A change of a table's tree and of its indexes' is a change of that table alone.
use Rattle.std.proofs.Common.{◌≡◌, ℕ, List, [], ◌∷◌, Bool, true, false, not, ◌&&◌, ◌||◌, ◌==◌, refl, sym, subst, inl, inr}
use Rattle.std.specs.List.{AllByRecursion, list_all, list_any}
use Rattle.std.proofs.lemmas.Bool.{and_parts, eqb-true, not-true, or_cases}
use Rattle.sqlite_trees.specs.Objects.{catalog_tree}
use Rattle.sqlite_trees.specs.Tree.{Trees}
use Rattle.sqlite_sql.specs.Catalog.{IsIndexOf}
use Rattle.sqlite_schema.specs.declared.schema.Index.{Index}
use Rattle.sqlite_schema.specs.declared.schema.Schema.{Schema}
use Rattle.sqlite_schema.specs.declared.schema.Table.{Table}
use Rattle.sqlite_rules.proofs.ListLemmas.{all_from, all_has, test_has}
use Rattle.sqlite_catalog.specs.Listing.{IsSound}
use Rattle.prof_store.specs.Schema.{schema_two, run_event_at, derived_at, coef_at, name_at, arc_at, stack_at, thread_cell_at}
use Rattle.page_places.specs.TableChanges.{OnlyChanges, SparesBut, Where}
use Rattle.page_places.proofs.TakenOut.{where_true}

abbrev is_among : List ℕ → ℕ → Bool
is_among trees tree = list_any (λ changed. changed == tree) trees

abbrev is_other : Table → List ℕ → Table → Bool
is_other table trees t = (t.tree == table.tree) || not (is_among trees t.tree)

abbrev is_of_other : Table → List ℕ → Index → Bool
is_of_other table trees i = (i.table == table.tree) || (not (is_among trees i.table) && not (is_among trees i.tree))

-- the trees are none of the list, of other tables, or of other tables' indexes
record AreOwn (schema : Schema) (table : Table) (trees : List ℕ) : Type 0 where
  list : is_among trees catalog_tree ≡ false
  tables : list_all (is_other table trees) schema.tables ≡ true
  indexes : list_all (is_of_other table trees) schema.indexes ≡ true

only_from : (schema : Schema) (table : Table) (trees : List ℕ) (old new : Trees) → AreOwn schema table trees → IsSound schema old → SparesBut trees old new
    → AllByRecursion (λ i. Where (i.table == table.tree) (IsIndexOf i.columns (new i.table) (new i.tree))) schema.indexes → OnlyChanges schema old new table
only_from schema table trees old new own sound spared indexed = record {
  list_stays = spared catalog_tree own.list;
  others = λ t listed other. elim (or_cases (t.tree == table.tree) (not (is_among trees t.tree)) (test_has (is_other table trees) schema.tables t own.tables listed)) [
    | inl same ↦ absurd (other (eqb-true t.tree table.tree same))
    | inr away ↦ spared t.tree (not-true _ away)
  ];
  indexed = all_from _ schema.indexes (λ i known. elim (or_cases (i.table == table.tree) (not (is_among trees i.table) && not (is_among trees i.tree)) (test_has (is_of_other table trees) schema.indexes i own.indexes known)) [
    | inl same ↦ where_true (i.table == table.tree) _ (all_has _ schema.indexes i indexed known) same
    | inr away ↦
        let parts = and_parts (not (is_among trees i.table)) (not (is_among trees i.tree)) away in
        subst (λ rows. IsIndexOf i.columns rows (new i.tree)) (sym (spared i.table (not-true _ parts.0)))
        (subst (IsIndexOf i.columns (old i.table)) (sym (spared i.tree (not-true _ parts.1))) (all_has _ schema.indexes i sound.obeys.indexed known))
  ]);
}

module _ (db next : Trees) (sound : IsSound schema_two db) where
  pub only_events : SparesBut (3 ∷ 4 ∷ 5 ∷ []) db next → IsIndexOf (1 ∷ 2 ∷ []) (next 3) (next 4) → IsIndexOf (1 ∷ 3 ∷ []) (next 3) (next 5) → OnlyChanges schema_two db next run_event_at
  only_events spared first second = only_from schema_two run_event_at (3 ∷ 4 ∷ 5 ∷ []) db next (record { list = refl; tables = refl; indexes = refl }) sound spared (tt, (first, (second, (tt, (tt, (tt, (tt, (tt, (tt, (tt, (tt, (tt, tt))))))))))))

  pub only_derived : SparesBut (6 ∷ 7 ∷ 8 ∷ []) db next → IsIndexOf (1 ∷ 2 ∷ []) (next 6) (next 7) → IsIndexOf (1 ∷ 3 ∷ []) (next 6) (next 8) → OnlyChanges schema_two db next derived_at
  only_derived spared first second = only_from schema_two derived_at (6 ∷ 7 ∷ 8 ∷ []) db next (record { list = refl; tables = refl; indexes = refl }) sound spared (tt, (tt, (tt, (first, (second, (tt, (tt, (tt, (tt, (tt, (tt, (tt, tt))))))))))))

  pub only_coefs : SparesBut (9 ∷ 10 ∷ []) db next → IsIndexOf (1 ∷ 2 ∷ 3 ∷ []) (next 9) (next 10) → OnlyChanges schema_two db next coef_at
  only_coefs spared one = only_from schema_two coef_at (9 ∷ 10 ∷ []) db next (record { list = refl; tables = refl; indexes = refl }) sound spared (tt, (tt, (tt, (tt, (tt, (one, (tt, (tt, (tt, (tt, (tt, (tt, tt))))))))))))

  pub only_names : SparesBut (11 ∷ 12 ∷ []) db next → IsIndexOf (2 ∷ []) (next 11) (next 12) → OnlyChanges schema_two db next name_at
  only_names spared one = only_from schema_two name_at (11 ∷ 12 ∷ []) db next (record { list = refl; tables = refl; indexes = refl }) sound spared (tt, (tt, (tt, (tt, (tt, (tt, (one, (tt, (tt, (tt, (tt, (tt, tt))))))))))))

  pub only_calls : SparesBut (15 ∷ 16 ∷ []) db next → IsIndexOf (1 ∷ 2 ∷ 3 ∷ 4 ∷ 5 ∷ 6 ∷ 7 ∷ 8 ∷ 9 ∷ []) (next 15) (next 16) → OnlyChanges schema_two db next arc_at
  only_calls spared one = only_from schema_two arc_at (15 ∷ 16 ∷ []) db next (record { list = refl; tables = refl; indexes = refl }) sound spared (tt, (tt, (tt, (tt, (tt, (tt, (tt, (one, (tt, (tt, (tt, (tt, tt))))))))))))

  pub only_stacks : SparesBut (17 ∷ 18 ∷ []) db next → IsIndexOf (1 ∷ 2 ∷ []) (next 17) (next 18) → OnlyChanges schema_two db next stack_at
  only_stacks spared one = only_from schema_two stack_at (17 ∷ 18 ∷ []) db next (record { list = refl; tables = refl; indexes = refl }) sound spared (tt, (tt, (tt, (tt, (tt, (tt, (tt, (tt, (one, (tt, (tt, (tt, tt))))))))))))

  pub only_cells : SparesBut (23 ∷ 24 ∷ []) db next → IsIndexOf (1 ∷ 5 ∷ 6 ∷ 4 ∷ 3 ∷ 2 ∷ 7 ∷ []) (next 23) (next 24) → OnlyChanges schema_two db next thread_cell_at
  only_cells spared one = only_from schema_two thread_cell_at (23 ∷ 24 ∷ []) db next (record { list = refl; tables = refl; indexes = refl }) sound spared (tt, (tt, (tt, (tt, (tt, (tt, (tt, (tt, (tt, (tt, (tt, (one, tt))))))))))))
