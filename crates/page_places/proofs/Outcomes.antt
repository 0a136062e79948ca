-- What comes of one row that is put behind the others, taken out or replaced.
use Rattle.std.proofs.Common.{◌≡◌, ℕ, ℤ, pos, ◌+ℤ◌, Bool, true, false, not, cond, if◌then◌else◌, filter, List, [], ◌∷◌, ◌++◌, Some, Result, Ok, Err, MatchResult, refl, sym, ap, subst, subst₂, ◌∙◌, inl}
use Rattle.std.specs.List.{AllByRecursion}
use Rattle.std.proofs.lemmas.Grind.{fold-append}
use Rattle.sqlite_rules.specs.Edit.{id_in, next_rowid}
use Rattle.sqlite_rules.specs.Lists.{Has}
use Rattle.sqlite_rules.proofs.ListLemmas.{all_has, has_filtered}
use Rattle.sqlite_disk.specs.declared.Disk.{Ghosts}
use Rattle.sqlite_schema.specs.declared.schema.Schema.{Schema}
use Rattle.sqlite_schema.specs.declared.schema.Table.{Table}
use Rattle.sqlite_sql.specs.Catalog.{entry_of, IsIndexOf}
use Rattle.sqlite_store.specs.declared.catalog.Wanted.{Wanted}
use Rattle.sqlite_store.specs.Catalog.{reals_at}
use Rattle.sqlite_store.specs.Db.{shown}
use Rattle.sqlite_store.proofs.ShownLemmas.{shown-zero}
use Rattle.sqlite_trees.specs.declared.store.Shape.TheVariants as shape
use Rattle.sqlite_trees.specs.Tree.{Trees, has_rowid, insert_entry, put_row, remove_entry, rowid, with_tree, without_rowid}
use Rattle.sqlite_trees.specs.View.{Finds, IsShaped}
use Rattle.sqlite_value.specs.declared.value.Value.TheVariants.{Int}
use Rattle.sqlite_value.specs.Keys.{plain}
use Rattle.sqlite_value.specs.Order.{Row, column}
use Rattle.sql_tables.proofs.Rows.{own_id, put_last}
use Rattle.page_files.specs.declared.files.PageFile.{PageFile}
use Rattle.page_files.specs.Held.{Writes}
use Rattle.page_files.specs.Lasts.{IsLastRowid}
use Rattle.page_files.specs.Trees.{ShowsTable, trees_of}
use Rattle.page_files.proofs.Standing.{stands_writing, table_stands, tree_shown}
use Rattle.page_places.proofs.Entries.{entries_still, entry_put, entry_removed}
use Rattle.page_places.proofs.OneRow.{one_row, put_over, put_replaces}
use Rattle.page_places.specs.declared.places.IndexPlace.{IndexPlace}
use Rattle.page_places.specs.declared.places.Place.{Place}
use Rattle.page_places.specs.Changes.{AreBelow, HasRows, KeepsEntries, Shows}
use Rattle.page_places.specs.Entries.{EntryEdit, with_entries}
use Rattle.page_places.specs.Places.{indexes_of}
use Rattle.page_places.proofs.Changed.{mine_of, only_changed, only_own, places_low, rows_changed, table_shaped, with_other, with_same}
use Rattle.page_places.proofs.Spaced.{table_apart}

pub match_result : {T E : Type 0} (r : Result T E) {P Q : Type 0} {F G : E → Type 0} → (P → Q) → ((e : E) → F e → G e) → MatchResult r (λ _. P) F → MatchResult r (λ _. Q) G
match_result (Ok x) so fails p = so p
match_result (Err e) so fails p = fails e p

-- a row is shown as it is given where no column is REAL
pub as_given : (wanted : List Wanted) (t : ℕ) (row : Row) → reals_at wanted t ≡ 0 → shown shape.Table (reals_at wanted t) row ≡ row
as_given wanted t row none = subst (λ n. shown shape.Table n row ≡ row) (sym none) (shown-zero row)

all_stay : (p : Row → Bool) (rows : List Row) → filter p rows ≡ [] → filter (λ r. not (p r)) rows ≡ rows
all_stay p [] none = refl
all_stay p (r ∷ rows) none = go (p r) none (all_stay p rows)
  where
    go : (b : Bool) → cond b (r ∷ filter p rows) (filter p rows) ≡ [] → (filter p rows ≡ [] → filter (λ q. not (p q)) rows ≡ rows) → cond (not b) (r ∷ filter (λ q. not (p q)) rows) (filter (λ q. not (p q)) rows) ≡ r ∷ rows
    go true e more = absurd cc
    go false e more = ap (λ l. r ∷ l) (more e)

columns_kept : (id : ℤ) (columns old : Row) (places : List ℕ) → AllByRecursion (λ at. column (Int id ∷ columns) at ≡ column (Int id ∷ old) at) places
    → (r : Row) (b : Bool) → (b ≡ true → r ≡ Int id ∷ old) → AllByRecursion (λ at. column (if b then Int id ∷ columns else r) at ≡ column r at) (0 ∷ places)
columns_kept id columns old places same r true is = (sym (ap (λ l. column l 0) (is refl)), subst (λ (q : Row). AllByRecursion (λ at. column (Int id ∷ columns) at ≡ column q at) places) (sym (is refl)) same)
columns_kept id columns old places same r false is = (refl, themselves places)
  where
    themselves : (ps : List ℕ) → AllByRecursion (λ at. column r at ≡ column r at) ps
    themselves [] = tt
    themselves (p ∷ ps) = (refl, themselves ps)

module _ {D : Type 0} {g : Ghosts D} (place : Place) (schema : Schema) (wanted : List Wanted) (roots : List ℕ) (was now : Trees) (table : Table) (old new : PageFile D g) (shows : Shows place schema wanted roots was now table old) where
  -- the rows are others, and so are the entries of one row
  pub changed : (edit : EntryEdit) (row : Row) (rows : List Row)
      → Writes wanted roots was (with_entries edit row (with_tree now table.tree rows) (indexes_of schema table)) new
      → ((cs : List ℕ) (entries : List Row) → IsIndexOf cs (now table.tree) entries → IsIndexOf cs rows (edit plain (entry_of cs row) entries))
      → HasRows schema wanted roots was now table rows new
  changed edit row rows w step =
      let at = shows.placed in
      let low = places_low wanted roots place.indexes.now (indexes_of schema table) at.indexes in
      let same = rows_changed schema at.spaced table at.listed edit row now rows at.at.low low in
      record {
        next = with_entries edit row (with_tree now table.tree rows) (indexes_of schema table);
        writes = w;
        only = only_changed schema at.spaced table at.listed edit row now rows at.at.low low shows.indexed step;
        rows_are = same;
        shaped = subst (IsShaped shape.Table) same (table_shaped new w at.at);
      }

  -- a row behind the others
  pub inserted : (id : ℤ) (columns : Row) → AreBelow (Int id) (now table.tree)
      → Writes wanted roots was (with_entries insert_entry (Int id ∷ columns) (with_tree now table.tree (put_row (Int id ∷ columns) (now table.tree))) (indexes_of schema table)) new
      → HasRows schema wanted roots was now table (now table.tree ++ (Int id ∷ columns) ∷ []) new
  inserted id columns above w =
      let rows = now table.tree in
      let behind = put_last (Int id ∷ columns) rows above in
      changed insert_entry (Int id ∷ columns) (rows ++ (Int id ∷ columns) ∷ [])
      (subst (λ l. Writes wanted roots was (with_entries insert_entry (Int id ∷ columns) (with_tree now table.tree l) (indexes_of schema table)) new) behind w)
      (λ cs entries h. entry_put plain cs id columns rows entries above h)

  -- the row with a rowid is gone
  pub erased : (id : ℤ) (columns : Row) → Finds (now table.tree) id (Int id ∷ columns) true
      → Writes wanted roots was (with_entries remove_entry (Int id ∷ columns) (with_tree now table.tree (without_rowid id (now table.tree))) (indexes_of schema table)) new
      → HasRows schema wanted roots was now table (without_rowid id (now table.tree)) new
  erased id columns found w =
      let rows = now table.tree in
      let row : Row = Int id ∷ columns in
      let there : Has rows row = (has_filtered (has_rowid id) rows row (subst (λ l. Has l row) (sym found) (inl refl))).0 in
      changed remove_entry row (without_rowid id rows) w (λ cs entries h. entry_removed plain cs id columns rows entries (table_shaped old shows.writes shows.placed.at) there h)

  -- nothing has changed
  pub unchanged : Writes wanted roots was now new → HasRows schema wanted roots was now table (now table.tree) new
  unchanged w = record {
    next = now;
    writes = w;
    only = record { list_stays = refl; others = λ t there other. refl; indexed = shows.indexed };
    rows_are = refl;
    shaped = table_shaped new w shows.placed.at;
  }

  -- there was no row with this rowid
  pub none_erased : (id : ℤ) (row : Row) → Finds (now table.tree) id row false → Writes wanted roots was now new → HasRows schema wanted roots was now table (without_rowid id (now table.tree)) new
  none_erased id row none w = subst (λ l. HasRows schema wanted roots was now table l new) (sym (all_stay (has_rowid id) (now table.tree) none)) (unchanged w)

  -- the row with a rowid has other columns, and its entries stay
  pub replaced : (id : ℤ) (columns : Row) → KeepsEntries id columns (now table.tree) (indexes_of schema table)
      → Writes wanted roots was (with_tree now table.tree (put_row (Int id ∷ columns) (now table.tree))) new
      → HasRows schema wanted roots was now table (put_row (Int id ∷ columns) (now table.tree)) new
  replaced id columns keeps w =
      let at = shows.placed in
      let rows = now table.tree in
      let was_row : Row = Int id ∷ keeps.0 in
      let shaped = table_shaped old shows.writes at.at in
      let turned = put_replaces id columns rows was_row shaped.0 keeps.1 (own_id was_row refl) in
      let place = with_same now table.tree (put_row (Int id ∷ columns) rows) in
      record {
        next = with_tree now table.tree (put_row (Int id ∷ columns) rows);
        writes = w;
        only = only_own schema at.spaced table at.listed now (with_tree now table.tree (put_row (Int id ∷ columns) rows)) (put_row (Int id ∷ columns) rows) at.at.low
            (places_low wanted roots place_indexes (indexes_of schema table) at.indexes) shows.indexed place
            (λ u other apart. with_other now table.tree u (put_row (Int id ∷ columns) rows) other)
            (λ i there h.
            let tree = with_other now table.tree i.tree (put_row (Int id ∷ columns) rows) (λ same. table_apart schema at.spaced table i at.listed (mine_of schema at.spaced table at.listed i there).0 (sym same)) in
            subst₂ (IsIndexOf i.columns) (sym turned) (sym tree)
            (entries_still i.columns (put_over id columns) rows (now i.tree)
            (λ r has_r. columns_kept id columns keeps.0 i.columns (all_has _ (indexes_of schema table) i keeps.2 there) r (has_rowid id r) (λ is. one_row rows shaped was_row r keeps.1 has_r is)) h));
        rows_are = place;
        shaped = subst (IsShaped shape.Table) place (table_shaped new w at.at);
      }
    where
      place_indexes : List IndexPlace
      place_indexes = place.indexes.now

-- the table is shown as a table
pub table_shows : {D : Type 0} {g : Ghosts D} (it : PageFile D g) {place : Place} {schema : Schema} {wanted : List Wanted} {roots : List ℕ} {was now : Trees} {table : Table} → Shows place schema wanted roots was now table it
    → ShowsTable wanted table.tree place.root it × (trees_of wanted it table.tree ≡ now table.tree)
table_shows it {table = table} shows =
    let at = shows.placed in
    let stands = stands_writing it shows.writes in
    (table_stands it stands table.tree at.at.low _ at.at.shape_is at.no_reals (sym at.at.root_is), tree_shown it stands table.tree at.at.low)

-- the rowid above the last
pub numbered_next : (rows : List Row) (last : ℤ) → IsLastRowid rows (Some last) → last +ℤ pos 1 ≡ next_rowid rows
numbered_next rows last h =
    sym (ap next_rowid h.2 ∙ fold-append (λ (n : ℤ) (r : Row). id_in (rowid r) +ℤ pos 1) (pos 1) h.0 (h.1 ∷ []) ∙ ap (λ v. id_in v +ℤ pos 1) h.3)
