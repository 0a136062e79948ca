-- A step of a walk.
use Rattle.std.proofs.Common.{◌≡◌, ℤ, ℕ, Bool, true, false, List, [], ◌∷◌, ◌++◌, map, sym, ap, ap₂, subst, ◌∙◌, inl, inr, append-nil, append_assoc}
use Rattle.sqlite_pages.specs.PageMap.{PageMap}
use Rattle.sqlite_btree.specs.Chain.{Layout}
use Rattle.sqlite_btree.specs.Cut.{from_cut}
use Rattle.sqlite_btree.specs.Stored.{as_row, by_rowid}
use Rattle.sqlite_btree.specs.Batch.{TookFirst, IsFilled}
use Rattle.sqlite_btree.specs.declared.batch.Batch.{Batch}
use Rattle.sqlite_store.proofs.RowLemmas.{Raw}
use Rattle.sqlite_value.specs.Order.{Row}
use Rattle.page_rows.specs.Places.{IsAt, HasCome}
use Rattle.page_rows.specs.Walks.{HasWalked, IsBehind, MayRefuse}

module _ (layout : Layout) (size : ℕ) (pages : PageMap) (raw : List Raw) (from : ℤ) (old new : Batch) where
  -- a row that the batch had left
  pub come_within : IsAt layout size pages raw from old → TookFirst layout size pages old new true → HasCome layout size pages raw from new true
  come_within at took = (took.1, (at.1.0, at.1.1 ∙ ap (λ es. map as_row es ++ at.1.0) took.0))

  -- the first row of a new page, or none
  pub come_anew : IsFilled as_row (from_cut (by_rowid from) raw) layout size pages old → (more : Bool)
      → TookFirst layout size pages old new more → HasCome layout size pages raw from new more
  come_anew filled true took = (took.1, (filled.rest, filled.parts ∙ ap (λ es. map as_row es ++ filled.rest) took.0))
  come_anew filled false took = filled.parts ∙ ap₂ (λ es rest. map as_row es ++ rest) took.0 (filled.ends took.0)

may_refuse-behind : {E : Type 0} (Refuses : Row → E → Type 0) (e : E) (front rows : List Row) → MayRefuse Refuses rows e → MayRefuse Refuses (front ++ rows) e
may_refuse-behind Refuses e [] rows may = may
may_refuse-behind Refuses e (row ∷ front) rows may = inr (may_refuse-behind Refuses e front rows may)

module _ {A S : Type 0} (Has Ends : A → List Row → S → Type 0) (start : A) (old : S) (rows all : List Row) (is : IsBehind Has start rows old all) where
  -- no row is left
  pub ends_here : rows ≡ [] → HasWalked Has Ends start all old
  ends_here none = inl (subst (λ list. Has start list old) (sym (is.1 ∙ ap (λ rest. is.0 ++ rest) none ∙ append-nil is.0)) is.2)

  module _ (row : Row) (rest : List Row) (parts : rows ≡ row ∷ rest) where
    all_parts : all ≡ (is.0 ++ row ∷ []) ++ rest
    all_parts = is.1 ∙ ap (λ list. is.0 ++ list) parts ∙ sym (append_assoc is.0 (row ∷ []) rest)

    -- the row is the last that is wanted
    pub stops_behind : (new : S) → (Has start is.0 old → Ends start (is.0 ++ row ∷ []) new) → HasWalked Has Ends start all new
    stops_behind new taken = inr (is.0 ++ row ∷ [], rest, all_parts, taken is.2)

    -- the row is taken, and more are wanted
    pub goes_behind : (new : S) → (Has start is.0 old → Has start (is.0 ++ row ∷ []) new) → IsBehind Has start rest new all
    goes_behind new taken = (is.0 ++ row ∷ [], all_parts, taken is.2)

    -- the row is refused
    pub refused_here : {E : Type 0} (Refuses : Row → E → Type 0) (e : E) → Refuses row e → MayRefuse Refuses all e
    refused_here Refuses e may = subst (λ list. MayRefuse Refuses list e) (sym (is.1 ∙ ap (λ list. is.0 ++ list) parts)) (may_refuse-behind Refuses e is.0 (row ∷ rest) (inl may))
