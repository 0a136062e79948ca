-- The records of an index, cut at a row or behind a record.
use Rattle.std.proofs.Common.{◌≡◌, ◌≢◌, ℕ, Bool, true, false, List, [], ◌∷◌, ◌++◌, map, refl, sym, ap, ap₂, subst, ◌∙◌, inl, inr, append_assoc, Ordering, Greater, is_lt, is_gt}
use Rattle.std.specs.Ordering.{ordering_reverse}
use Rattle.std.proofs.lemmas.Bool.{cases_Bool}
use Rattle.std.proofs.lemmas.Cmp.{tied_itself}
use Rattle.std.proofs.lemmas.List.{map-append}
use Rattle.sqlite_pages.specs.PageMap.{PageMap}
use Rattle.sqlite_btree.specs.Chain.{Layout}
use Rattle.sqlite_btree.specs.Batch.{left_in, taken, IsFilled}
use Rattle.sqlite_btree.specs.Cut.{Each, Ascends, before_cut, from_cut}
use Rattle.sqlite_btree.specs.Stored.{as_record, IsIndex, IsLaidIn}
use Rattle.sqlite_btree.specs.declared.batch.Batch.{Batch}
use Rattle.sqlite_btree.proofs.CutLemmas.{before-from}
use Rattle.sqlite_record.specs.Record.{decode}
use Rattle.sqlite_value.specs.declared.keys.Order.{Order}
use Rattle.sqlite_value.specs.Order.{Row}
use Rattle.sqlite_value.specs.Keys.{entry_cmp}
use Rattle.sqlite_value.proofs.KeyLemmas.{entry_cmp_total}
use Rattle.sqlite_store.specs.Db.{record_order}
use Rattle.sqlite_store.proofs.DbLemmas.{index_reads}
use Rattle.sqlite_store.proofs.OrderLemmas.{less}
use Rattle.page_rows.specs.Batches.{shown_of, last_of, HandedOn, TookBatch}
use Rattle.page_rows.specs.Indexes.{at_row, behind_record, entries_of, from_entry}
use Rattle.page_rows.specs.Walks.{HasWalked, IsBehind}
use Rattle.page_rows.proofs.Steps.{ends_here}

-- the entries from a row on
pub cut_entries : (order : Order) (from : Row) (records : List (List ℕ)) → map decode (from_cut (at_row order from) records) ≡ from_entry order from (map decode records)
cut_entries order from [] = refl
cut_entries order from (x ∷ xs) = elim (cases_Bool (is_lt (entry_cmp order (decode x) from)))
    [ inl low ↦ rw low (cut_entries order from xs) | inr high ↦ rw high ]

pub all_entries : {size root : ℕ} {layout : Layout} {pages : PageMap} {records : List (List ℕ)} (order : Order) (from : Row) → IsLaidIn layout pages → IsIndex (record_order order) size layout root records
    → map decode (from_cut (at_row order from) records) ≡ from_entry order from (entries_of size pages order root)
all_entries {pages = pages} {records = records} order from laid index = cut_entries order from records ∙ ap (from_entry order from) (sym (index_reads pages laid index))

after : (order : Order) (x y : List ℕ) → record_order order x y ≡ true → entry_cmp order (decode y) (decode x) ≡ Greater
after order x y h = (entry_cmp_total order).antisymm (decode y) (decode x) ∙ ap ordering_reverse (less _ h)

each_at : {X : Type 0} (P : X → Type 0) (xs : List X) (x : X) (rest : List X) → Each P (xs ++ x ∷ rest) → P x
each_at P [] x rest all = all.0
each_at P (y ∷ xs) x rest all = each_at P xs x rest all.1

-- the records behind one of them
pub cut_behind : (order : Order) (front : List (List ℕ)) (last : List ℕ) (rest : List (List ℕ)) → Ascends (record_order order) (front ++ last ∷ rest)
    → from_cut (behind_record order last) (front ++ last ∷ rest) ≡ rest
cut_behind order [] last [] up = rw (tied_itself (entry_cmp_total order) (decode last))
cut_behind order [] last (y ∷ ys) up = rw (tied_itself (entry_cmp_total order) (decode last), after order last y up.0.0)
cut_behind order (x ∷ xs) last rest up =
    let low = less _ (each_at (λ y. record_order order x y ≡ true) xs last rest up.0) in rw low (cut_behind order xs last rest up.1)

-- the last record of a batch comes after that of the batch before it
pub later_rises : (order : Order) (front : List (List ℕ)) (last : List ℕ) (part : List (List ℕ)) (new : List ℕ) (rest : List (List ℕ))
    → Ascends (record_order order) (front ++ last ∷ (part ++ new ∷ rest)) → is_gt (entry_cmp order (decode new) (decode last)) ≡ true
later_rises order [] last part new rest up = ap is_gt (after order last new (each_at (λ y. record_order order last y ≡ true) part new rest up.0))
later_rises order (x ∷ xs) last part new rest up = later_rises order xs last part new rest up.1

-- a walk over the records of an index has come behind this one of them
abbrev pub HasPassed : {A S : Type 0} → (A → List Row → S → Type 0) → A → List (List ℕ) → List ℕ → S → List Row → Type 0
HasPassed Has start records last sink all = (front rest : List (List ℕ)) × (records ≡ front ++ last ∷ rest) × IsBehind Has start (map decode rest) sink all

module _ {A S : Type 0} (Has Ends : A → List Row → S → Type 0) (start : A) (records : List (List ℕ)) (batch : Batch) (old sink : S) (all : List Row) where
  -- a first batch was taken
  pub passed_first : (side : List ℕ → Ordering) → TookBatch Has Ends start sink all side records batch true → HasPassed Has start records (last_of batch) sink all
  passed_first side took =
      let (part, rest, parts, is) = took in
      (before_cut side records ++ part, rest, sym (before-from side records) ∙ ap (λ l. before_cut side records ++ l) parts ∙ sym (append_assoc (before_cut side records) part (last_of batch ∷ rest)), is)

  module _ (order : Order) (up : Ascends (record_order order) records) (last : List ℕ) (passed : HasPassed Has start records last old all) where
    -- what is left lies behind it
    pub left_behind : IsBehind Has start (map decode (from_cut (behind_record order last) records)) old all
    left_behind =
        let (front, rest, parts, is) = passed in
        let cut : from_cut (behind_record order last) records ≡ rest = ap (from_cut (behind_record order last)) parts ∙ cut_behind order front last rest (subst (Ascends (record_order order)) parts up) in
        subst (λ l. IsBehind Has start (map decode l) old all) (sym cut) is

    module _ (took : TookBatch Has Ends start sink all (behind_record order last) records batch true) where
      split : (part rest : List (List ℕ)) × (records ≡ passed.0 ++ last ∷ (part ++ last_of batch ∷ rest)) × IsBehind Has start (map decode rest) sink all
      split =
          let (front, left, parts, was) = passed in
          let (part, rest, here, is) = took in
          let cut : from_cut (behind_record order last) records ≡ left = ap (from_cut (behind_record order last)) parts ∙ cut_behind order front last left (subst (Ascends (record_order order)) parts up) in
          (part, rest, parts ∙ ap (λ l. front ++ last ∷ l) (sym cut ∙ here), is)

      pub passed_next : HasPassed Has start records (last_of batch) sink all
      passed_next = let (part, rest, parts, is) = split in (passed.0 ++ last ∷ part, rest, parts ∙ sym (append_assoc passed.0 (last ∷ part) (last_of batch ∷ rest)), is)

      pub rises_next : is_gt (entry_cmp order (decode (last_of batch)) (decode last)) ≡ true
      rises_next = let (part, rest, parts, is) = split in later_rises order passed.0 last part (last_of batch) rest (subst (Ascends (record_order order)) parts up)

module _ {A S : Type 0} (Has Ends : A → List Row → S → Type 0) (layout : Layout) (size : ℕ) (pages : PageMap) (side : List ℕ → Ordering) (records : List (List ℕ)) (filled_batch new : Batch)
    (filled : IsFilled as_record (from_cut side records) layout size pages filled_batch) (start : A) (all : List Row) (old : S)
    (is : IsBehind Has start (map decode (from_cut side records)) old all) where
  -- there was no record
  pub took_none : left_in pages filled_batch ≡ [] → HasWalked Has Ends start all old
  took_none none =
      let cut : from_cut side records ≡ [] = filled.parts ∙ ap₂ (λ left rest. map as_record left ++ rest) none (filled.ends none) in
      ends_here Has Ends start old _ all is (ap (map decode) cut)

  pub left_first : IsBehind Has start (shown_of (left_in pages filled_batch) ++ map decode filled.rest) old all
  left_first = subst (λ l. IsBehind Has start l old all) (ap (map decode) filled.parts ∙ map-append decode (map as_record (left_in pages filled_batch)) filled.rest) is

  pub took_some : left_in pages filled_batch ≢ [] → (sink : S) (more : Bool) → HandedOn Has Ends start sink all (left_in pages filled_batch) (map decode filled.rest) new more
      → TookBatch Has Ends start sink all side records new more
  took_some some sink false handed = handed
  took_some some sink true handed = elim handed.1 [
    | inl none ↦ absurd (some none)
    | inr (front, parts) ↦ (
      map as_record front,
      filled.rest,
      filled.parts ∙ ap (λ l. map as_record l ++ filled.rest) parts ∙ ap (λ l. l ++ filled.rest) (map-append as_record front (taken new ∷ []))
          ∙ append_assoc (map as_record front) (last_of new ∷ []) filled.rest,
      handed.0,
    )
  ]
