-- From the pages of a database to its tables.
use Rattle.std.proofs.Common.{◌≡◌, ◌≢◌, ℤ, ℕ, ◌^◌, ◌-◌, pos, ◌+ℤ◌, negsuc, zero, suc, true, codes, List, [], ◌∷◌, map, slice_index, Some, None, refl, sym, ap, ap₂, subst, ◌∙◌}
use Rattle.std.specs.List.{list_all}
use Rattle.std.proofs.lemmas.Bool.{and_parts}
use Rattle.sqlite_pages.specs.PageMap.{PageMap}
use Rattle.sqlite_btree.proofs.StoredLemmas.{stored_root_live}
use Rattle.sqlite_value.specs.declared.value.Value.TheVariants.{Int, Text}
use Rattle.sqlite_value.specs.Order.{Row, column}
use Rattle.sqlite_trees.specs.Tree.{rowid}
use Rattle.sqlite_trees.specs.declared.store.Shape.TheVariants.{Absent, Table, Index}
use Rattle.sqlite_trees.specs.declared.store.Shape.{Shape}
use Rattle.sqlite_value.specs.declared.keys.Order.{Order}
use Rattle.sqlite_store.specs.declared.catalog.Wanted.{Wanted}
use Rattle.sqlite_store.specs.Catalog.{shape_at, roots_in, root_in, fits_shape, shape_fits, MayAllStand}
use Rattle.sqlite_trees.specs.Sound.{are_in_order, head_at}
use Rattle.sqlite_store.specs.Db.{shown, rows_at, roots_of, trees_in, IsDb, Names}
use Rattle.sqlite_store.proofs.DbLemmas.{named_laid, named_rows}
use Rattle.sqlite_store.proofs.ShownLemmas.{shown-zero}
use Rattle.page_rows.specs.Rows.{HasTable, rows_of, from_rowid}
use Rattle.page_rows.proofs.Cuts.{all_from_least, from_behind}
use Rattle.page_rows.specs.Roots.{root_in_list}
use Rattle.page_rows.specs.Tables.{description_at, IsIndexNamed, IsNamed, IsRooted, root_of_tree}
use Rattle.page_rows.proofs.Entries.{word_is, named_root}

all_shown : (rows : List Row) → map (shown Table 0) rows ≡ rows
all_shown [] = refl
all_shown (row ∷ rows) = ap₂ ◌∷◌ (shown-zero row) (all_shown rows)

-- sqlite_schema is a table
pub schema_there : {size : ℕ} {wanted : List Wanted} {pages : PageMap} → IsDb size wanted pages → HasTable size pages 1
schema_there db = ((db.layouts 0), (db.trees.kept 0).0, db.trees.laid 0, (db.trees.kept 0).1)

module _ {size : ℕ} {wanted : List Wanted} {pages : PageMap} (db : IsDb size wanted pages) {t root : ℕ} (rooted : IsRooted size wanted pages t root) where
  names : Names size wanted pages t Table root
  names = record { shape_is = rooted.shape; root_is = sym rooted.root_is }

  -- the pages hold the table
  pub table_there : HasTable size pages root
  table_there = let laid = named_laid db names in (db.layouts (suc t), laid.1.0, laid.0, laid.1.1)

  -- whose rows are those of the tree
  pub table_shown : rows_of size pages root ≡ trees_in size wanted pages t
  table_shown =
      sym (all_shown _) ∙ ap (λ r. map (shown Table r) (rows_at size pages Table root)) (sym rooted.plain) ∙ sym (named_rows names)

  -- a walk from the least rowid on is one of all rows
  pub all_shown_from_least : from_rowid (negsuc (2 ^ 63 - 1)) (trees_in size wanted pages t) ≡ trees_in size wanted pages t
  all_shown_from_least =
      subst (λ rows. from_rowid (negsuc (2 ^ 63 - 1)) rows ≡ rows) table_shown (all_from_least size pages root table_there)

  -- the rows behind the first that is not below a rowid
  pub shown_behind : (at id : ℤ) (row : Row) (rest : List Row) → rowid row ≡ Int id → from_rowid at (trees_in size wanted pages t) ≡ row ∷ rest
      → from_rowid (id +ℤ pos 1) (trees_in size wanted pages t) ≡ rest
  shown_behind at id row rest numbered =
      subst (λ rows. from_rowid at rows ≡ row ∷ rest → from_rowid (id +ℤ pos 1) rows ≡ rest) table_shown (from_behind size pages root table_there at id row rest numbered)

-- the tree at a place
record IsWantedAt (entries : List Row) (wanted : List Wanted) (t : ℕ) (shape : Shape) (w : Wanted) : Type 0 where
  pub is : w.shape ≡ shape
  pub row : description_at wanted t ≡ w.row
  pub root : slice_index (roots_in entries wanted) t ≡ root_in entries w
  pub fits : list_all fits_shape wanted ≡ true → fits_shape w ≡ true

wanted_at : (entries : List Row) (wanted : List Wanted) (t : ℕ) (shape : Shape) → shape ≢ Absent → shape_at wanted t ≡ shape → (w : Wanted) × IsWantedAt entries wanted t shape w
wanted_at entries [] t shape there is = absurd (there (sym is))
wanted_at entries (w ∷ wanted) zero shape there is = (w, record { is = is; row = refl; root = refl; fits = λ all. (and_parts _ _ all).0 })
wanted_at entries (w ∷ wanted) (suc t) shape there is =
    let later = wanted_at entries wanted t shape there is in
    (later.0, record { is = later.1.is; row = later.1.row; root = later.1.root; fits = λ all. later.1.fits (and_parts _ _ all).1 })

-- a page with a root is not page 0, where there is no such page
live_root : (pages : PageMap) {root : ℕ} {page : List ℕ} → pages root ≡ Some page → pages 0 ≡ None → root ≢ 0
live_root pages there none is_zero = let at_zero = ap pages is_zero in let both = sym there ∙ at_zero ∙ none in cc

module _ {size : ℕ} {wanted : List Wanted} {pages : PageMap} (db : IsDb size wanted pages) (no_zero : pages 0 ≡ None) (t : ℕ) (name : List ℕ) where
  abbrev entries : List Row
  entries = rows_of size pages 1

  in_order : MayAllStand wanted entries → are_in_order [] (map (head_at 1) entries) ≡ true
  in_order known = (and_parts _ _ known).1

  stated : (kind : List ℕ) (shape : Shape) (w : Wanted) → IsWantedAt entries wanted t shape w → column w.row 0 ≡ Text kind → column (description_at wanted t) 1 ≡ Text name
      → root_of_tree size wanted pages t ≢ 0 → root_in_list kind name entries ≡ Some (root_of_tree size wanted pages t)
  unfolding roots_of
  stated kind shape w at of_kind named live =
      named_root w kind name of_kind (ap (λ r. column r 1) (sym at.row) ∙ named) entries [] (in_order db.known) (λ zero_is. live (at.root ∙ zero_is)) ∙ ap Some (sym at.root)

  -- the entry of a table's name states its root
  pub root_stated : IsNamed wanted t name → root_in_list (codes "table") name entries ≡ Some (root_of_tree size wanted pages t)
  root_stated is =
      let (w, at) = wanted_at entries wanted t Table (λ e. cc) is.shape in
      let fits = and_parts _ _ (at.fits (and_parts _ _ (and_parts _ _ db.known).0).1) in
      let kind : column w.row 0 ≡ Text (codes "table") = word_is (codes "table") (column w.row 0) (subst (λ s. shape_fits s (column w.row 0) ≡ true) at.is fits.0) in
      let laid = named_laid db (record { shape_is = is.shape; root_is = refl }) in
      let there = laid.0.nodes _ (stored_root_live laid.1.1.stored) in
      stated (codes "table") Table w at kind is.named (live_root pages there no_zero)

  -- and that of an index's name does
  pub index_stated : (order : Order) → IsIndexNamed wanted t order name → root_in_list (codes "index") name entries ≡ Some (root_of_tree size wanted pages t)
  index_stated order is =
      let (w, at) = wanted_at entries wanted t (Index order) (λ e. cc) is.shape in
      let laid = named_laid db (record { shape_is = is.shape; root_is = refl }) in
      let there = laid.0.nodes _ (stored_root_live laid.1.1.stored) in
      stated (codes "index") (Index order) w at (ap (λ r. column r 0) (sym at.row) ∙ is.kind) is.named (live_root pages there no_zero)
