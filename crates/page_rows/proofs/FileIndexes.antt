-- From the pages of a database to its indexes.
use Rattle.std.proofs.Common.{◌≡◌, ℕ, suc, List, [], ◌∷◌, map, refl, sym, ap, ap₂, ◌∙◌}
use Rattle.sqlite_pages.specs.PageMap.{PageMap}
use Rattle.sqlite_value.specs.Order.{Row}
use Rattle.sqlite_value.specs.declared.keys.Order.{Order}
use Rattle.sqlite_record.proofs.AffinityLemmas.{widen-zero}
use Rattle.sqlite_trees.specs.declared.store.Shape.TheVariants.{Index}
use Rattle.sqlite_store.specs.declared.catalog.Wanted.{Wanted}
use Rattle.sqlite_store.specs.Db.{shown, rows_at, trees_in, IsDb, Names}
use Rattle.sqlite_store.proofs.DbLemmas.{named_laid, named_rows}
use Rattle.page_rows.specs.Indexes.{HasIndex, entries_of}
use Rattle.page_rows.specs.Tables.{IsIndexRooted}

all_shown : (order : Order) (entries : List Row) → map (shown (Index order) 0) entries ≡ entries
all_shown order [] = refl
all_shown order (entry ∷ entries) = ap₂ ◌∷◌ (widen-zero entry) (all_shown order entries)

module _ {size : ℕ} {wanted : List Wanted} {pages : PageMap} (db : IsDb size wanted pages) {t root : ℕ} {order : Order} (rooted : IsIndexRooted size wanted pages t order root) where
  names : Names size wanted pages t (Index order) root
  names = record { shape_is = rooted.shape; root_is = sym rooted.root_is }

  -- the pages hold the index
  pub index_there : HasIndex size pages order root
  index_there = let laid = named_laid db names in (db.layouts (suc t), laid.1.0, laid.0, laid.1.1)

  -- whose entries are those of the tree
  pub index_shown : entries_of size pages order root ≡ trees_in size wanted pages t
  index_shown =
      sym (all_shown order _) ∙ ap (λ r. map (shown (Index order) r) (rows_at size pages (Index order) root)) (sym rooted.plain) ∙ sym (named_rows names)
