-- How far a walk has come in the entries of an index, a batch at a time.
use Rattle.std.specs.Prelude.{◌≡◌, ◌⊎◌, ℕ, Bool, true, false, List, [], ◌∷◌, ◌++◌, map, Result, MatchResult}
use Rattle.std.specs.declared.cmp.Ordering.{Ordering}
use Rattle.sqlite_pages.specs.Calls.{IsClean, FailsFor}
use Rattle.sqlite_pages.specs.declared.pages.Pages.{Ghosts}
use Rattle.sqlite_btree.specs.Batch.{left_in, taken, IsBatchOf}
use Rattle.sqlite_btree.specs.Chain.{Entry, Layout}
use Rattle.sqlite_btree.specs.Cut.{from_cut}
use Rattle.sqlite_btree.specs.Stored.{as_record, IsIndex, IsLaidIn, IsProbe}
use Rattle.sqlite_btree.specs.declared.batch.Batch.{Batch}
use Rattle.sqlite_record.specs.Record.{decode}
use Rattle.sqlite_value.specs.declared.keys.Order.{Order}
use Rattle.sqlite_value.specs.Order.{Row}
use Rattle.sqlite_store.specs.Db.{record_order}
use Rattle.page_rows.specs.declared.errors.WalkError.{WalkError}
use Rattle.page_rows.specs.Walks.{FailsToWalk, HasWalked, IsBehind, MayRefuse}

-- the entries of stored ones
abbrev pub shown_of : List Entry → List Row
shown_of entries = map decode (map as_record entries)

-- the record of the entry that the batch gave last
abbrev pub last_of : Batch → List ℕ
last_of batch = as_record (taken batch)

-- these entries end with the one that the batch gave last, if there is one
abbrev pub EndIn : List Entry → Batch → Type 0
EndIn entries batch = (entries ≡ []) ⊎ ((front : List Entry) × (entries ≡ front ++ taken batch ∷ []))

module _ {A S : Type 0} (Has Ends : A → List Row → S → Type 0) (start : A) (sink : S) (all : List Row) where
  -- those that the batch had left were taken, and more are wanted; or the walk has ended
  abbrev pub HandedOn : List Entry → List Row → Batch → Bool → Type 0
  HandedOn left rest batch true = IsBehind Has start rest sink all × EndIn left batch
  HandedOn left rest batch false = HasWalked Has Ends start all sink

  -- of the records from a target on the first were taken, the last of them by the batch, and more are wanted; or the walk has ended
  abbrev pub TookBatch : (List ℕ → Ordering) → List (List ℕ) → Batch → Bool → Type 0
  TookBatch side records batch true =
      (part rest : List (List ℕ)) × (from_cut side records ≡ part ++ last_of batch ∷ rest) × IsBehind Has start (map decode rest) sink all
  TookBatch side records batch false = HasWalked Has Ends start all sink

module _ {P A S E : Type 0} (g : Ghosts P) (early late : P) (Has Ends : A → List Row → S → Type 0) (Refuses : Row → E → Type 0) where
  abbrev FailsOver : List Row → WalkError E → Type 0
  FailsOver all = FailsToWalk (FailsFor g early late ⊥) (MayRefuse Refuses all)

  -- what the batch has left is handed on, or the walk failed for a cause
  abbrev pub HandsOn : (old new : Batch) (before after : S) → Result Bool (WalkError E) → Type 0
  HandsOn old new before after result =
      IsClean g late → (layout : Layout) → IsLaidIn layout (g.pages early) → IsBatchOf layout (g.size early) old
      → (start : A) (rest all : List Row) → IsBehind Has start (shown_of (left_in (g.pages early) old) ++ rest) before all
      → MatchResult result (HandedOn Has Ends start after all (left_in (g.pages early) old) rest new) (FailsOver all)

  -- the next entries from a target on are handed on, or the walk failed for a cause
  abbrev pub WalksBatch : (side : List ℕ → Ordering) (root : ℕ) (new : Batch) (before after : S) → Result Bool (WalkError E) → Type 0
  WalksBatch side root new before after result =
      IsClean g late → (order : Order) → IsProbe (record_order order) side → (layout : Layout) (records : List (List ℕ)) → IsLaidIn layout (g.pages early)
      → IsIndex (record_order order) (g.size early) layout root records
      → (start : A) (all : List Row) → IsBehind Has start (map decode (from_cut side records)) before all
      → MatchResult result (TookBatch Has Ends start after all side records new) (FailsOver all)
