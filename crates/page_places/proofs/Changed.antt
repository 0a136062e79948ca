-- A table's tree and the trees of its indexes are edited, and nothing else changes.
use Rattle.std.proofs.Common.{◌≡◌, ◌≢◌, ◌==◌, ◌^◌, ◌<◌, ℕ, List, [], ◌∷◌, refl, sym, ap, subst, ◌∙◌, inl, inr, arith, eq-eqb, ne_eqb, eqb-true}
use Rattle.std.proofs.lemmas.Bool.{cases_eq}
use Rattle.std.specs.List.{AllByRecursion}
use Rattle.sqlite_disk.specs.declared.Disk.{Ghosts}
use Rattle.sqlite_rules.specs.Lists.{Has}
use Rattle.sqlite_rules.proofs.ListLemmas.{all_from, all_has, has_filtered, has_kept}
use Rattle.sqlite_schema.specs.declared.schema.Index.{Index}
use Rattle.sqlite_schema.specs.declared.schema.Schema.{Schema}
use Rattle.sqlite_schema.specs.declared.schema.Table.{Table}
use Rattle.sqlite_sql.specs.Catalog.{entry_of, IsIndexOf}
use Rattle.sqlite_store.specs.declared.catalog.Wanted.{Wanted}
use Rattle.sqlite_store.specs.Catalog.{shape_at}
use Rattle.sqlite_store.specs.Listing.{all_shapes, all_trees}
use Rattle.sqlite_store.proofs.ListingLemmas.{all_ordered}
use Rattle.sqlite_trees.specs.declared.store.Shape.TheVariants as shape
use Rattle.sqlite_trees.specs.Objects.{catalog_tree, set_at, version_tree, with_version}
use Rattle.sqlite_trees.specs.Tree.{Trees, IsAscending, with_tree}
use Rattle.sqlite_trees.specs.View.{IsShaped}
use Rattle.sqlite_pool.specs.File.{version_in}
use Rattle.sqlite_pool.specs.Pool.{state}
use Rattle.sqlite_value.specs.Keys.{plain}
use Rattle.sqlite_value.specs.Order.{Row}
use Rattle.page_files.specs.declared.files.PageFile.{PageFile}
use Rattle.page_files.specs.Files.{page_size, pages_of}
use Rattle.page_files.specs.Held.{Writes}
use Rattle.page_files.specs.Writes.{IsTreeAt}
use Rattle.page_places.specs.TableChanges.{OnlyChanges}
use Rattle.page_places.specs.declared.places.IndexPlace.{IndexPlace}
use Rattle.page_places.specs.Changes.{AreIndexed}
use Rattle.page_places.specs.Entries.{EntryEdit, with_entry, with_entries}
use Rattle.page_places.specs.Places.{AreIndexPlaces, indexes_of, IsSpaced}
use Rattle.page_places.proofs.Spaced.{indexes_apart, its_table_apart, same_index, table_apart}

pub with_same : (db : Trees) (t : ℕ) (rows : List Row) → with_tree db t rows t ≡ rows
with_same db t rows = rw (eq-eqb t t refl)

pub with_other : (db : Trees) (t u : ℕ) (rows : List Row) → u ≢ t → with_tree db t rows u ≡ db u
with_other db t u rows other = rw (ne_eqb u t other)

-- a tree of none of the indexes stays
entries_other : (edit : EntryEdit) (row : Row) (db : Trees) (indexes : List Index) (u : ℕ) → AllByRecursion (λ (i : Index). u ≢ i.tree) indexes → with_entries edit row db indexes u ≡ db u
entries_other edit row db [] u apart = refl
entries_other edit row db (i ∷ indexes) u apart = entries_other edit row (with_entry edit row db i) indexes u apart.1 ∙ with_other db i.tree u _ apart.0

-- the tree of one of them is edited
entries_at : (edit : EntryEdit) (row : Row) (db : Trees) (indexes : List Index) (i : Index) → IsAscending (λ (a b : Index). a.tree ≢ b.tree) indexes → Has indexes i
    → with_entries edit row db indexes i.tree ≡ edit plain (entry_of i.columns row) (db i.tree)
entries_at edit row db [] i apart there = absurd there
entries_at edit row db (x ∷ indexes) i apart (inl same) =
    subst (λ (y : Index). with_entries edit row db (x ∷ indexes) y.tree ≡ edit plain (entry_of y.columns row) (db y.tree)) (sym same)
    (entries_other edit row (with_entry edit row db x) indexes x.tree apart.0 ∙ with_same db x.tree _)
entries_at edit row db (x ∷ indexes) i apart (inr later) =
    entries_at edit row (with_entry edit row db x) indexes i apart.1 later
    ∙ ap (edit plain (entry_of i.columns row)) (with_other db x.tree i.tree _ (λ same. all_has (λ (b : Index). x.tree ≢ b.tree) indexes i apart.0 later (sym same)))

-- trees of places are below the schema's own
pub places_low : (wanted : List Wanted) (roots : List ℕ) (places : List IndexPlace) (indexes : List Index) → AreIndexPlaces wanted roots places indexes → AllByRecursion (λ (i : Index). i.tree < 2 ^ 32) indexes
places_low wanted roots [] [] h = tt
places_low wanted roots [] (i ∷ indexes) h = absurd h
places_low wanted roots (p ∷ places) [] h = absurd h
places_low wanted roots (p ∷ places) (i ∷ indexes) h = (h.0.at.low, places_low wanted roots places indexes h.1)

-- trees of which only the table's and its indexes' are others
module _ (schema : Schema) (spaced : IsSpaced schema) (table : Table) (listed : Has schema.tables table) where
  pub mine_of : (i : Index) → Has (indexes_of schema table) i → Has schema.indexes i × (i.table ≡ table.tree)
  mine_of i there = let f = has_filtered (λ (x : Index). x.table == table.tree) schema.indexes i there in (f.0, eqb-true i.table table.tree f.1)

  pub only_own : (now next : Trees) (rows : List Row) → table.tree < 2 ^ 32 → AllByRecursion (λ (i : Index). i.tree < 2 ^ 32) (indexes_of schema table) → AreIndexed schema now → next table.tree ≡ rows
      → ((u : ℕ) → u ≢ table.tree → AllByRecursion (λ (i : Index). u ≢ i.tree) (indexes_of schema table) → next u ≡ now u)
      → ((i : Index) → Has (indexes_of schema table) i → IsIndexOf i.columns (now table.tree) (now i.tree) → IsIndexOf i.columns rows (next i.tree))
      → OnlyChanges schema now next table
  only_own now next rows low all_low indexed is elsewhere entries = record {
    list_stays = elsewhere catalog_tree (λ same. omega (arith, low)) (all_from _ (indexes_of schema table) (λ i there same. let below = all_has (λ (x : Index). x.tree < 2 ^ 32) (indexes_of schema table) i all_low there in omega arith));
    others = λ t there other. elsewhere t.tree other (all_from _ (indexes_of schema table) (λ i mine. table_apart schema spaced t i there (mine_of i mine).0));
    indexed = all_from _ schema.indexes (λ i there. elim (cases_eq i.table table.tree) [
      | inl mine ↦
          let here = has_kept (λ (x : Index). x.table == table.tree) schema.indexes i there (eq-eqb i.table table.tree mine) in
          subst (λ l. IsIndexOf i.columns l (next i.tree)) (sym (ap next mine ∙ is))
          (entries i here (subst (λ n. IsIndexOf i.columns (now n) (now i.tree)) mine (all_has _ schema.indexes i indexed there)))
      | inr other ↦
          let away = elsewhere i.table other (all_from _ (indexes_of schema table) (λ j mine. its_table_apart schema spaced i j there (mine_of j mine).0)) in
          let tree = elsewhere i.tree (λ same. table_apart schema spaced table i listed there (sym same))
          (all_from _ (indexes_of schema table) (λ j mine same. other (ap (λ (x : Index). x.table) (same_index schema spaced i j there (mine_of j mine).0 same) ∙ (mine_of j mine).1))) in
          subst (λ l. IsIndexOf i.columns l (next i.tree)) (sym away) (subst (IsIndexOf i.columns (now i.table)) (sym tree) (all_has _ schema.indexes i indexed there))
    ]);
  }

module _ (schema : Schema) (spaced : IsSpaced schema) (table : Table) (listed : Has schema.tables table) (edit : EntryEdit) (row : Row) where
  -- the table's tree has these rows, and the indexes' are edited
  abbrev changed : Trees → List Row → Trees
  changed now rows = with_entries edit row (with_tree now table.tree rows) (indexes_of schema table)

  module _ (now : Trees) (rows : List Row) (low : table.tree < 2 ^ 32) (all_low : AllByRecursion (λ (i : Index). i.tree < 2 ^ 32) (indexes_of schema table)) where
    pub elsewhere : (u : ℕ) → u ≢ table.tree → AllByRecursion (λ (i : Index). u ≢ i.tree) (indexes_of schema table) → changed now rows u ≡ now u
    elsewhere u other apart = entries_other edit row (with_tree now table.tree rows) (indexes_of schema table) u apart ∙ with_other now table.tree u rows other

    pub rows_changed : changed now rows table.tree ≡ rows
    rows_changed =
        entries_other edit row (with_tree now table.tree rows) (indexes_of schema table) table.tree (all_from _ (indexes_of schema table) (λ i there. table_apart schema spaced table i listed (mine_of schema spaced table listed i there).0)) ∙ with_same now table.tree rows

    pub entry_changed : (i : Index) → Has (indexes_of schema table) i → changed now rows i.tree ≡ edit plain (entry_of i.columns row) (now i.tree)
    entry_changed i there =
        entries_at edit row (with_tree now table.tree rows) (indexes_of schema table) i (indexes_apart schema spaced table) there
        ∙ ap (edit plain (entry_of i.columns row)) (with_other now table.tree i.tree rows (λ same. table_apart schema spaced table i listed (mine_of schema spaced table listed i there).0 (sym same)))

    pub only_changed : AreIndexed schema now → ((cs : List ℕ) (entries : List Row) → IsIndexOf cs (now table.tree) entries → IsIndexOf cs rows (edit plain (entry_of cs row) entries))
        → OnlyChanges schema now (changed now rows) table
    only_changed indexed step =
        only_own schema spaced table listed now (changed now rows) rows low all_low indexed rows_changed elsewhere
        (λ i there was. subst (IsIndexOf i.columns rows) (sym (entry_changed i there)) (step i.columns (now i.tree) was))

module _ {D : Type 0} {g : Ghosts D} where
  -- a table's rows are in order
  pub table_shaped : (it : PageFile D g) {wanted : List Wanted} {roots : List ℕ} {was now : Trees} {t root : ℕ} → Writes wanted roots was now it → IsTreeAt wanted roots t shape.Table root → IsShaped shape.Table (now t)
  unfolding all_shapes
  table_shaped it {wanted} {t = t} w is =
      let version = version_in (state it.pool).committed in
      let all = all_ordered {size = page_size it} {schema = wanted} {pages = pages_of it} w.numbered.db version t in
      let shape_is : all_shapes wanted t ≡ shape.Table = shapes_low t is.low is.shape_is in
      subst (λ (db : Trees). IsShaped shape.Table (db t)) (sym w.reads) (subst (λ s. IsShaped s (with_version (all_trees (page_size it) wanted (pages_of it)) version t)) shape_is all)
    where
      shapes_low : (u : ℕ) → u < 2 ^ 32 → shape_at wanted u ≡ shape.Table → set_at (set_at (shape_at wanted) catalog_tree shape.Table) version_tree shape.Table u ≡ shape.Table
      shapes_low u low same = rw (ne_eqb u version_tree (omega arith), ne_eqb u catalog_tree (omega arith)) same
