-- Rows whose first column is a number, and their entries.
use Rattle.std.proofs.Common.{◌≡◌, ℕ, ℤ, zero, suc, ◌+◌, pos, Bool, not, List, [], ◌∷◌, ◌++◌, map, filter, fold, take, drop, length, get_or, ◌<◌, take_all, append-nil, take_while, refl, sym, ap, subst, ◌∙◌, inl, inr, arith, IsPermutation, is_eq}
use Rattle.std.proofs.lemmas.Bool.{cases_Bool}
use Rattle.std.proofs.lemmas.Grind.{fold-append}
use Rattle.std.proofs.lemmas.List.{drop_all}
use Rattle.std.proofs.lemmas.List.Sorted.{IsPermutation-sym}
use Rattle.sqlite_rules.specs.Edit.{id_in, without_all}
use Rattle.sqlite_rules.specs.Lists.{Has}
use Rattle.sqlite_rules.proofs.ListLemmas.{all_from, all_has, has_filtered, has_kept}
use Rattle.sqlite_rules.proofs.ProbeLemmas.{has_mapped, mapped_has}
use Rattle.sqlite_schema.specs.declared.schema.Index.{Index}
use Rattle.sqlite_schema.specs.declared.schema.Schema.{Schema}
use Rattle.sqlite_schema.specs.declared.schema.Table.{Table}
use Rattle.sqlite_disk.specs.declared.Disk.{Ghosts}
use Rattle.sqlite_store.specs.declared.catalog.Wanted.{Wanted}
use Rattle.std.specs.List.{AllByRecursion}
use Rattle.sqlite_sql.specs.Catalog.{entry_of, IsIndexOf}
use Rattle.sqlite_trees.specs.declared.store.Shape.TheVariants as shape
use Rattle.sqlite_trees.specs.Tree.{IsIndex, Trees, rowid, with_tree}
use Rattle.sqlite_trees.specs.View.{IsShaped}
use Rattle.sqlite_trees.proofs.ListLemmas.{IsPermutation-filter, filter-map, filter_same}
use Rattle.sqlite_trees.proofs.TreeLemmas.{prefix_cmp-one}
use Rattle.sqlite_value.specs.declared.value.Value.TheVariants.{Int}
use Rattle.sqlite_value.specs.Keys.{plain}
use Rattle.sqlite_value.specs.Order.{Row, column}
use Rattle.sql_tables.proofs.Queries.{has_permuted}
use Rattle.sql_tables.proofs.Rows.{Numbered, id_is, left_by_picks}
use Rattle.page_files.specs.Removals.{has_prefix, without}
use Rattle.page_files.specs.declared.files.PageFile.{PageFile}
use Rattle.page_files.specs.Files.{IsFaithful}
use Rattle.page_files.specs.Held.{Writes}
use Rattle.page_files.proofs.Causes.{fails_to_read}
use Rattle.sqlite_pool.specs.Pool.{state}
use Rattle.sqlite_pool.specs.Stored.{Keeps}
use Rattle.std.specs.Prelude.{IsTrue, ⊤}
use Rattle.page_rows.specs.Indexes.{begins_with, from_entry}
use Rattle.page_rows.proofs.Prefixes.{those_that_begin}
use Rattle.page_places.specs.declared.places.IndexPlace.{IndexPlace}
use Rattle.page_places.specs.declared.places.Place.{Place}
use Rattle.page_places.specs.declared.errors.RowError.{RowError}
use Rattle.page_places.specs.declared.errors.RowError.TheVariants.{Pages, Unstorable, NoRowid}
use Rattle.page_places.specs.Causes.{FailsToChange, FailsToFind}
use Rattle.page_places.specs.Changes.{HasRows, Shows}
use Rattle.page_places.specs.Entries.{with_entries}
use Rattle.page_places.specs.Places.{AreIndexPlaces, indexes_of, IsIndexPlace}
use Rattle.row_writes.specs.Tests.{rows_left}
use Rattle.row_writes.specs.Under.{AreLed, entry_id, ids_under, is_under, IsLed, out_under}
use Rattle.page_places.proofs.Changed.{elsewhere, entry_changed, only_own, places_low, rows_changed, table_shaped}

-- ---- the walk

more_of : (n : ℕ) (row : Row) (rows : List Row) → take (1 + n) (row ∷ rows) ≡ row ∷ take n rows
more_of n row rows = let same : 1 + n ≡ suc n = omega arith in ap (λ k. take k (row ∷ rows)) same

module _ (prefix : Row) where
  ids_are : (es : List Row) → map entry_id (take_while (begins_with plain prefix) es) ≡ ids_under prefix es
  ids_are [] = refl
  ids_are (e ∷ es) = elim (cases_Bool (begins_with plain prefix e)) [
    | inl begins ↦ rw begins (ap (map entry_id) (more_of _ e es) ∙ ap (λ l. entry_id e ∷ l) (ids_are es))
    | inr other ↦ rw other
  ]

  -- the rowids of the entries that begin so are those of a walk from the prefix on
  pub all_under : (entries : List Row) → IsIndex plain entries → map entry_id (filter (begins_with plain prefix) entries) ≡ ids_under prefix (from_entry plain prefix entries)
  all_under entries up = ap (map entry_id) (those_that_begin plain prefix entries up) ∙ ids_are (from_entry plain prefix entries)

-- ---- the rows

-- the last value of an entry is its row's rowid
pub id_of_entry : (cs : List ℕ) (row : Row) → entry_id (entry_of cs row) ≡ id_in (rowid row)
id_of_entry cs row = fold-append (λ _ value. id_in value) (pos 0) (map (column row) cs) (rowid row ∷ [])

-- a row's entry begins with its first column
pub begins_as_row : (n : ℤ) (more : List ℕ) (row : Row) → begins_with plain (Int n ∷ []) (entry_of (1 ∷ more) row) ≡ is_under n row
begins_as_row n more row = ap is_eq (prefix_cmp-one (column row 1) (map (column row) more ++ rowid row ∷ []) (Int n))

-- the rows left are those of which no rowid was found
pub rows_out : (n : ℤ) (more : List ℕ) (rows entries : List Row) (ids : List ℤ) → IsShaped shape.Table rows → IsIndexOf (1 ∷ more) rows entries
    → IsPermutation (map entry_id (filter (begins_with plain (Int n ∷ [])) entries)) ids → without_all rows ids ≡ rows_left (is_under n) rows
rows_out n more rows entries ids shaped indexed found =
    let begins = begins_with plain (Int n ∷ []) in
    let given = map entry_id (filter begins entries) in
    let entry = entry_of (1 ∷ more) in
    left_by_picks (is_under n) rows ids shaped (record {
      sound = λ id there.
          let e = has_mapped entry_id (filter begins entries) id (has_permuted given ids id found there) in
          let f = has_filtered begins entries e.0 e.1 in
          let r = has_mapped entry rows e.0 (has_permuted (map entry rows) entries e.0 indexed f.0) in (
            r.0,
            r.1,
            sym (begins_as_row n more r.0) ∙ ap begins (sym r.2) ∙ f.1,
            id_is r.0 (all_has Numbered rows r.0 shaped.1 r.1) ∙ ap Int (sym (id_of_entry (1 ∷ more) r.0) ∙ ap entry_id (sym r.2) ∙ sym e.2),
          );
      complete = λ r id there taken at.
          let e = entry r in
          let in_index = has_permuted entries (map entry rows) e (IsPermutation-sym (map entry rows) entries indexed) (mapped_has entry rows r there) in
          let kept = has_kept begins entries e in_index (begins_as_row n more r ∙ taken) in
          let same : entry_id e ≡ id = id_of_entry (1 ∷ more) r ∙ ap id_in at in
          subst (Has ids) same (has_permuted ids given (entry_id e) (IsPermutation-sym given ids found) (mapped_has entry_id (filter begins entries) e kept));
    })

-- their entries go with them
entries_out : (n : ℤ) (more : List ℕ) (rows entries : List Row) → IsIndexOf (1 ∷ more) rows entries
    → IsIndexOf (1 ∷ more) (rows_left (is_under n) rows) (without (has_prefix plain (Int n ∷ [])) entries)
entries_out n more rows entries indexed =
    let entry = entry_of (1 ∷ more) in
    let stays = λ (e : Row). not (begins_with plain (Int n ∷ []) e) in
    let same = filter_same (λ row. stays (entry row)) (λ row. not (is_under n row)) rows (all_from _ rows (λ row there. ap not (begins_as_row n more row))) in
    rw (← same, ← filter-map stays entry rows) (IsPermutation-filter _ _ _ indexed)

module _ {D : Type 0} {g : Ghosts D} (place : Place) (schema : Schema) (wanted : List Wanted) (roots : List ℕ) (was now : Trees) (table : Table) (old new : PageFile D g) (shows : Shows place schema wanted roots was now table old) where
  -- the rows whose first column is a number are gone, and their entries
  pub erased_under : (n : ℤ) → AllByRecursion IsLed (indexes_of schema table)
      → Writes wanted roots was (with_entries (out_under (Int n ∷ [])) [] (with_tree now table.tree (rows_left (is_under n) (now table.tree))) (indexes_of schema table)) new
      → HasRows schema wanted roots was now table (rows_left (is_under n) (now table.tree)) new
  erased_under n led w =
      let at = shows.placed in
      let rows = rows_left (is_under n) (now table.tree) in
      let edit = out_under (Int n ∷ []) in
      let next = with_entries edit [] (with_tree now table.tree rows) (indexes_of schema table) in
      let low = places_low wanted roots place.indexes.now (indexes_of schema table) at.indexes in
      let same = rows_changed schema at.spaced table at.listed edit [] now rows at.at.low low in
      record {
        next = next;
        writes = w;
        only = only_own schema at.spaced table at.listed now next rows at.at.low low shows.indexed same (elsewhere schema at.spaced table at.listed edit [] now rows at.at.low low)
            (λ i there h.
            let first = all_has IsLed (indexes_of schema table) i led there in
            subst (IsIndexOf i.columns rows) (sym (entry_changed schema at.spaced table at.listed edit [] now rows at.at.low low i there))
            (subst (λ cs. IsIndexOf cs rows (without (has_prefix plain (Int n ∷ [])) (now i.tree))) (sym first.1) (entries_out n first.0 (now table.tree) (now i.tree) (subst (λ cs. IsIndexOf cs (now table.tree) (now i.tree)) first.1 h))));
        rows_are = same;
        shaped = subst (IsShaped shape.Table) same (table_shaped new w at.at);
      }

-- ---- what a call is given

-- what was lent whole comes back whole
pub whole_back : {X : Type 0} (n : ℕ) (new old : List X) → length new ≡ length old → length old ≡ n → take n (new ++ drop (length new) old) ≡ new
whole_back n new old same all = rw (drop_all (length new) old (omega arith), append-nil new) (take_all n new (omega arith))

-- the index of the first place
pub first_index : (wanted : List Wanted) (roots : List ℕ) (places : List IndexPlace) (indexes : List Index) → AreIndexPlaces wanted roots places indexes → 0 < length places → (d : IndexPlace)
    → (i : Index) × (rest : List Index) × (indexes ≡ i ∷ rest) × IsIndexPlace wanted roots (get_or places 0 d) i
first_index wanted roots [] indexes h some d = absurd (omega arith)
first_index wanted roots (place ∷ places) [] h some d = absurd h
first_index wanted roots (place ∷ places) (i ∷ rest) h some d = (i, rest, refl, h.0)

pub no_index : (wanted : List Wanted) (roots : List ℕ) (rows : List Row) (places : List IndexPlace) (indexes : List Index) → AreIndexPlaces wanted roots places indexes → length places ≡ 0 → AreLed rows indexes → ⊥
no_index wanted roots rows [] [] h none led = led
no_index wanted roots rows [] (i ∷ rest) h none led = h
no_index wanted roots rows (place ∷ places) indexes h none led = let no : ⊥ = omega arith in no

pub all_led : (rows : List Row) (indexes : List Index) → AreLed rows indexes → AllByRecursion IsLed indexes
all_led rows [] led = tt
all_led rows (i ∷ rest) led = led

-- entries were not read for a cause
pub find_fails : {D : Type 0} {g : Ghosts D} (old new : PageFile D g) (e : RowError) → Keeps (state old.pool) (state new.pool) → IsTrue (state old.pool).is_open → IsFaithful new → FailsToFind old new e → FailsToChange old new ⊤ e
find_fails old new (Pages e) k is_open faithful h = fails_to_read old new e k is_open faithful h
find_fails old new Unstorable k is_open faithful h = absurd h
find_fails old new NoRowid k is_open faithful h = absurd h

pub some_from : (n : ℕ) → (n ≡ 0 → ⊥) → 0 < n
some_from zero not = absurd (not refl)
some_from (suc n) not = omega arith
