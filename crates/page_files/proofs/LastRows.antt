-- The last row of a table, from a batch of its last rows.
use Rattle.std.proofs.Common.{◌≡◌, ℕ, true, false, List, [], ◌∷◌, ◌++◌, map, None, Some, refl, sym, ap, ap₂, ◌∙◌, append_assoc}
use Rattle.std.proofs.lemmas.List.{map-append}
use Rattle.sqlite_pages.specs.PageMap.{PageMap}
use Rattle.sqlite_btree.specs.declared.batch.Batch.{Batch}
use Rattle.sqlite_btree.specs.Batch.{left_in, taken, IsFilledBack, TookLast}
use Rattle.sqlite_btree.specs.Chain.{Layout}
use Rattle.sqlite_btree.specs.Stored.{as_row, rowid_of}
use Rattle.sqlite_store.specs.Db.{table_row}
use Rattle.sqlite_store.proofs.RowLemmas.{Raw}
use Rattle.page_files.specs.Lasts.{IsLastRowid}

module _ (layout : Layout) (size : ℕ) (pages : PageMap) (raw : List Raw) (old new : Batch) (filled : IsFilledBack as_row raw layout size pages old) where
  pub last_there : TookLast layout size pages old new true → IsLastRowid (map table_row raw) (Some (rowid_of (taken new).key))
  last_there took =
      let front = filled.front ++ map as_row (left_in pages new) in
      let last = as_row (taken new) in
      let parts : raw ≡ front ++ last ∷ [] = filled.parts ∙ ap (λ es. filled.front ++ map as_row es) took.0 ∙ ap (λ l. filled.front ++ l) (map-append as_row (left_in pages new) (taken new ∷ []))
      ∙ sym (append_assoc filled.front (map as_row (left_in pages new)) (last ∷ [])) in
      (map table_row front, table_row last, ap (map table_row) parts ∙ map-append table_row front (last ∷ []), refl)

  pub none_there : TookLast layout size pages old new false → IsLastRowid (map table_row raw) None
  none_there took = ap (map table_row) (filled.parts ∙ ap₂ (λ front es. front ++ map as_row es) (filled.ends took.0) took.0)
