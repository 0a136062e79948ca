-- A turn of a walk, over plain values.
use Rattle.std.proofs.Common.{◌≡◌, ℤ, ℕ, ◌^◌, pos, ◌+ℤ◌, ◌<ℤ◌, of_z, to_z, w64, to_z-of_z, true, false, List, [], ◌∷◌, ◌++◌, map, sym, ap, ap₂, subst, subst₂, ◌∙◌}
use Rattle.sqlite_pages.specs.PageMap.{PageMap}
use Rattle.sqlite_btree.specs.Chain.{Layout}
use Rattle.sqlite_btree.specs.Cut.{from_cut}
use Rattle.sqlite_btree.specs.Stored.{as_row, by_rowid, rowid_of, IsTable, IsLaidIn}
use Rattle.sqlite_btree.specs.Batch.{left_in, taken}
use Rattle.sqlite_btree.specs.declared.batch.Batch.{Batch}
use Rattle.sqlite_btree.proofs.ViewLemmas.{ascends_rows, rowid_fits}
use Rattle.sqlite_value.specs.Order.{Row}
use Rattle.sqlite_store.specs.Db.{table_row}
use Rattle.sqlite_store.proofs.DbLemmas.{table_reads, all_fit}
use Rattle.sqlite_store.proofs.RowLemmas.{Raw}
use Rattle.page_rows.specs.Rows.{rows_of, from_rowid}
use Rattle.page_rows.specs.Places.{IsAt, HasCome}
use Rattle.page_rows.specs.Walks.{HasWalked, IsBehind, MayRefuse}
use Rattle.page_rows.proofs.Cuts.{cut_rows, cut_goes_on, not_below, none_behind_last}
use Rattle.page_rows.proofs.Steps.{ends_here, stops_behind, refused_here, goes_behind}

-- what a call says of the pages that it began with, said of the pages at the start of the walk
pub since_start : (layout : Layout) (raw : List Raw) (root : ℕ) (id : ℤ) (batch : Batch) (X : ℕ → PageMap → Type 0) (size now : ℕ) (pages later : PageMap) → now ≡ size → later ≡ pages
    → (IsLaidIn layout later → IsTable now layout root raw → IsAt layout now later raw id batch → X now later)
    → IsLaidIn layout pages → IsTable size layout root raw → IsAt layout size pages raw id batch → X size pages
since_start layout raw root id batch X size now pages later sized paged said =
    subst₂ (λ n p. IsLaidIn layout p → IsTable n layout root raw → IsAt layout n p raw id batch → X n p) sized paged said

-- the row that a sink is handed
pub row_taken : (batch : Batch) (id : ℤ) (payload : List ℕ) → id ≡ rowid_of (taken batch).key → payload ≡ (taken batch).payload
    → table_row (to_z w64 (of_z w64 id), payload) ≡ table_row (as_row (taken batch))
row_taken batch id payload numbered is =
    ap₂ (λ i p. table_row (i, p)) (ap (λ z. to_z w64 (of_z w64 z)) numbered ∙ to_z-of_z (rowid_fits (taken batch).key)) is

-- the batch is at the row behind the one that came
pub batch_at : (layout : Layout) (size : ℕ) (pages : PageMap) (root : ℕ) (raw : List Raw) (table : IsTable size layout root raw) (id : ℤ) (batch : Batch)
    → HasCome layout size pages raw id batch true → (next : ℤ) → next ≡ (as_row (taken batch)).0 +ℤ pos 1 → IsAt layout size pages raw next batch
batch_at layout size pages root raw table id batch come next is =
    (come.0, (come.1.0, ap (λ n. from_cut (by_rowid n) raw) is ∙ (cut_goes_on id raw (as_row (taken batch)) _ (ascends_rows table) come.1.1).1))

module _ {A S : Type 0} (Has Ends : A → List Row → S → Type 0)
    (layout : Layout) (size : ℕ) (pages : PageMap) (root : ℕ) (raw : List Raw) (laid : IsLaidIn layout pages) (table : IsTable size layout root raw)
    (id first : ℤ) (batch : Batch) (old : S) (start : A)
    (behind : IsBehind Has start (map table_row (from_cut (by_rowid id) raw)) old (map table_row (from_cut (by_rowid first) raw))) where
  module _ (from : ℤ) (begins : first ≡ from) where
    all_rows : map table_row (from_cut (by_rowid first) raw) ≡ from_rowid from (rows_of size pages root)
    all_rows = ap (λ n. map table_row (from_cut (by_rowid n) raw)) begins ∙ cut_rows from raw ∙ ap (from_rowid from) (sym (table_reads pages laid table))

    whole : IsBehind Has start (map table_row (from_cut (by_rowid id) raw)) old (from_rowid from (rows_of size pages root))
    whole = subst (λ rows. IsBehind Has start (map table_row (from_cut (by_rowid id) raw)) old rows) all_rows behind

    -- no row was left
    pub ended : HasCome layout size pages raw id batch false → HasWalked Has Ends start (from_rowid from (rows_of size pages root)) old
    ended come = ends_here Has Ends start old _ _ whole (ap (map table_row) come)

  module _ (come : HasCome layout size pages raw id batch true) where
    parts : map table_row (from_cut (by_rowid id) raw) ≡ table_row (as_row (taken batch)) ∷ map table_row (map as_row (left_in pages batch) ++ come.1.0)
    parts = ap (map table_row) come.1.1

    -- the rows do not go back
    pub not_back : ¬ ((as_row (taken batch)).0 <ℤ id)
    not_back = not_below (as_row (taken batch)).0 id (cut_goes_on id raw (as_row (taken batch)) _ (ascends_rows table) come.1.1).0

    cut_behind : (next : ℤ) → next ≡ (as_row (taken batch)).0 +ℤ pos 1 → from_cut (by_rowid next) raw ≡ map as_row (left_in pages batch) ++ come.1.0
    cut_behind next is = ap (λ n. from_cut (by_rowid n) raw) is ∙ (cut_goes_on id raw (as_row (taken batch)) _ (ascends_rows table) come.1.1).1

    module _ (row : Row) (named : row ≡ table_row (as_row (taken batch))) where
      -- the row was refused
      pub refused : (from : ℤ) → first ≡ from → {E : Type 0} (Refuses : Row → E → Type 0) (e : E) → Refuses row e → MayRefuse Refuses (from_rowid from (rows_of size pages root)) e
      refused from begins Refuses e may = refused_here Has Ends start old _ _ (whole from begins) _ _ parts Refuses e (subst (λ r. Refuses r e) named may)

      -- the row was the last that is wanted
      pub stopped : (new : S) → ((rows : List Row) → Has start rows old → Ends start (rows ++ row ∷ []) new) → (from : ℤ) → first ≡ from
          → HasWalked Has Ends start (from_rowid from (rows_of size pages root)) new
      stopped new taken_by from begins =
          let w = whole from begins in
          stops_behind Has Ends start old _ _ w _ _ parts new (λ has. subst (λ r. Ends start (w.0 ++ r ∷ []) new) named (taken_by w.0 has))

      module _ (new : S) (taken_by : (rows : List Row) → Has start rows old → Has start (rows ++ row ∷ []) new) where
        taken_here : (before : List Row) → Has start before old → Has start (before ++ table_row (as_row (taken batch)) ∷ []) new
        taken_here before has = subst (λ r. Has start (before ++ r ∷ []) new) named (taken_by before has)

        -- the row has the greatest rowid
        pub at_greatest : (from : ℤ) → first ≡ from → (as_row (taken batch)).0 +ℤ pos 1 ≡ pos (2 ^ 63)
            → HasWalked Has Ends start (from_rowid from (rows_of size pages root)) new
        at_greatest from begins last =
            let none = none_behind_last raw _ (ascends_rows table) (all_fit table) (cut_behind (pos (2 ^ 63)) (sym last)) in
            ends_here Has Ends start new _ _ (goes_behind Has Ends start old _ _ (whole from begins) _ _ parts new (taken_here _)) (ap (map table_row) none)

        -- the walk goes on behind the row
        pub gone_on : (next : ℤ) → next ≡ (as_row (taken batch)).0 +ℤ pos 1
            → IsBehind Has start (map table_row (from_cut (by_rowid next) raw)) new (map table_row (from_cut (by_rowid first) raw))
        gone_on next is =
            subst (λ rows. IsBehind Has start rows new (map table_row (from_cut (by_rowid first) raw))) (sym (ap (map table_row) (cut_behind next is)))
            (goes_behind Has Ends start old _ _ behind _ _ parts new (taken_here _))
