-- A table and then its indexes are filled.
use Rattle.std.proofs.Common.{◌≡◌, ◌≢◌, ◌==◌, ◌||◌, ℕ, Bool, true, false, true≢false, pos, List, ◌∷◌, ◌++◌, refl, sym, ap, subst, ◌∙◌, eq-eqb}
use Rattle.std.specs.List.{AllByRecursion, list_any}
use Rattle.sqlite_disk.specs.declared.Disk.{Ghosts}
use Rattle.sqlite_rules.specs.Edit.{next_rowid}
use Rattle.sqlite_rules.proofs.ListLemmas.{all_from, all_has}
use Rattle.sqlite_schema.specs.declared.schema.Index.{Index}
use Rattle.sqlite_schema.specs.declared.schema.Schema.{Schema}
use Rattle.sqlite_schema.specs.declared.schema.Table.{Table}
use Rattle.sqlite_sql.specs.Catalog.{IsIndexOf}
use Rattle.sqlite_store.specs.declared.catalog.Wanted.{Wanted}
use Rattle.sqlite_trees.specs.declared.store.Shape.TheVariants as shape
use Rattle.sqlite_trees.specs.Tree.{Trees, put_row, with_tree}
use Rattle.sqlite_trees.specs.View.{IsShaped}
use Rattle.sqlite_value.specs.declared.value.Value.TheVariants.{Int}
use Rattle.sqlite_value.specs.Order.{Row}
use Rattle.page_files.specs.Places.{place_all}
use Rattle.page_files.proofs.Ordered.{table_above}
use Rattle.page_files.specs.declared.files.PageFile.{PageFile}
use Rattle.page_files.specs.Held.{Writes}
use Rattle.page_places.specs.declared.places.Place.{Place}
use Rattle.page_places.specs.Changes.{AreBelow, AreIndexed}
use Rattle.page_places.specs.Places.{indexes_of, IsPlaceOf}
use Rattle.page_places.proofs.Changed.{mine_of, table_shaped, with_other, with_same}
use Rattle.page_places.proofs.Spaced.{indexes_apart, table_apart}
use Rattle.line_fills.specs.Filled.{HasFilled, IsIndexFilled}
use Rattle.line_fills.specs.Placed.{CanBeFilled, HasEntries}
use Rattle.line_fills.specs.Rows.{first_from, numbered, rows_behind}
use Rattle.line_fills.proofs.Indexes.{among_none, still_filled_from, trees_of}
use Rattle.line_fills.proofs.Numbers.{rise_behind}

-- a tree is neither of two
neither : (a tree : ℕ) (more : List ℕ) → list_any (λ n. n == tree) (a ∷ more) ≡ false → (a ≢ tree) × (list_any (λ n. n == tree) more ≡ false)
neither a tree more none = go (a == tree) refl none
  where
    go : (b : Bool) → (a == tree) ≡ b → (b || list_any (λ n. n == tree) more) ≡ false → (a ≢ tree) × (list_any (λ n. n == tree) more ≡ false)
    go true e h = absurd (true≢false h)
    go false e h = ((λ same. true≢false (sym (eq-eqb a tree same) ∙ e)), h)

module _ {D : Type 0} {g : Ghosts D} (place : Place) (schema : Schema) (wanted : List Wanted) (roots : List ℕ) (was now : Trees) (table : Table) (at : IsPlaceOf place wanted roots schema table)
    (indexed : AreIndexed schema now) (old : PageFile D g) (before : Writes wanted roots was now old) (first : ℕ) (lines : List Row) (above : AreBelow (Int (pos first)) (now table.tree)) where
  abbrev t : ℕ
  t = table.tree

  abbrev olds : List Row
  olds = now table.tree

  abbrev news : List Row
  news = numbered first lines

  abbrev indexes : List Index
  indexes = indexes_of schema table

  -- the trees once the rows are behind the table's
  abbrev pub with_news : Trees
  with_news = with_tree now table.tree (now table.tree ++ numbered first lines)

  -- no index has the table's tree
  others : AllByRecursion (λ (i : Index). i.tree ≢ t) indexes
  others = all_from _ indexes (λ i there same. table_apart schema at.spaced table i at.listed (mine_of schema at.spaced table at.listed i there).0 (sym same))

  module _ (mid : PageFile D g) (placed : Writes wanted roots was (with_tree now table.tree (place_all put_row (numbered first lines) (now table.tree))) mid) where
    pub behind : Writes wanted roots was with_news mid
    behind = subst (λ rows. Writes wanted roots was (with_tree now t rows) mid) (table_above olds news (rise_behind olds first lines (table_shaped old before at.at).0 above)) placed

    shaped : IsShaped shape.Table (olds ++ news)
    shaped = subst (IsShaped shape.Table) (with_same now t (olds ++ news)) (table_shaped mid behind at.at)

    pub can_be_filled : CanBeFilled with_news (indexes_of schema table) (now table.tree) (numbered first lines)
    can_be_filled = record {
      apart = indexes_apart schema at.spaced table;
      shaped = shaped;
      indexed = all_from _ indexes (λ i there.
          let mine = mine_of schema at.spaced table at.listed i there in
          let was = all_has (λ (j : Index). IsIndexOf j.columns (now j.table) (now j.tree)) schema.indexes i indexed mine.0 in
          let same : with_news i.tree ≡ now i.tree = with_other now t i.tree (olds ++ news) (all_has (λ (j : Index). j.tree ≢ t) indexes i others there) in
          subst (IsIndexOf i.columns olds) (sym same) (subst (λ n. IsIndexOf i.columns (now n) (now i.tree)) mine.1 was));
    }

    pub whole_filled : (new : PageFile D g) → first ≡ first_from (next_rowid (now table.tree)) → HasEntries wanted roots was with_news (indexes_of schema table) (numbered first lines) new
        → HasFilled schema wanted roots was now table lines new
    whole_filled new is has =
        let there : has.next t ≡ olds ++ news = has.spared t (among_none t indexes others) ∙ with_same now t (olds ++ news) in
        let same : news ≡ rows_behind olds lines = ap (λ n. numbered n lines) is in
        let entered = still_filled_from with_news now has.next news indexes (all_from _ indexes (λ i mine. with_other now t i.tree (olds ++ news) (all_has (λ (j : Index). j.tree ≢ t) indexes i others mine))) has.filled in
        record {
          next = has.next;
          writes = has.writes;
          filled = record {
            behind = there ∙ ap (λ rows. olds ++ rows) same;
            shaped = subst (IsShaped shape.Table) (sym there) shaped;
            spared = λ tree none.
                let away = neither t tree (trees_of indexes) none in
                has.spared tree away.1 ∙ with_other now t tree (olds ++ news) (λ same. away.0 (sym same));
            filled = subst (λ rows. AllByRecursion (IsIndexFilled now has.next rows) indexes) same entered;
          };
        }
