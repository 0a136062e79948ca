-- A step of a walk over entries, within a batch and from one to the next.
use Rattle.std.proofs.Common.{◌≡◌, ◌≤◌, ℕ, true, false, List, [], ◌∷◌, ◌++◌, refl, sym, ap, subst, subst₂, ◌∙◌, inr, append-nil, append_assoc}
use Rattle.sqlite_pages.specs.PageMap.{PageMap}
use Rattle.sqlite_pages.specs.Outcome.{End, HasCause}
use Rattle.sqlite_store.proofs.Causes.{since}
use Rattle.sqlite_btree.specs.Chain.{Entry, Layout}
use Rattle.sqlite_btree.specs.Batch.{left_in, taken, IsBatchOf, TookFirst}
use Rattle.sqlite_btree.specs.Stored.{IsLaidIn}
use Rattle.sqlite_btree.specs.declared.batch.Batch.{Batch}
use Rattle.sqlite_record.specs.Record.{decode}
use Rattle.sqlite_value.specs.Order.{Row}
use Rattle.page_rows.specs.Batches.{shown_of, EndIn, HandedOn}
use Rattle.page_rows.specs.declared.errors.WalkError.{WalkError}
use Rattle.page_rows.specs.declared.errors.WalkError.TheVariants.{Pages, Refused}
use Rattle.page_rows.specs.Walks.{FailsToWalk, HasWalked, IsBehind, MayRefuse}
use Rattle.page_rows.proofs.Steps.{stops_behind, refused_here, goes_behind}

-- what a call says of the pages that it began with, said of the pages at the start of the walk
pub since_first : (layout : Layout) (batch : Batch) (X : ℕ → PageMap → Type 0) (size now : ℕ) (pages later : PageMap) → now ≡ size → later ≡ pages
    → (IsLaidIn layout later → IsBatchOf layout now batch → X now later) → IsLaidIn layout pages → IsBatchOf layout size batch → X size pages
since_first layout batch X size now pages later sized paged said = subst₂ (λ n p. IsLaidIn layout p → IsBatchOf layout n batch → X n p) sized paged said

-- a later call of a walk fails
pub walk_fails_later : {E : Type 0} (a b : ℕ) (end : End) (Refuses : E → Type 0) (e : WalkError E) → a ≤ b → b ≤ end.faults
    → FailsToWalk (HasCause b end ⊥) Refuses e → FailsToWalk (HasCause a end ⊥) Refuses e
walk_fails_later a b end Refuses (Pages e) p q h = since a b end ⊥ e p q h
walk_fails_later a b end Refuses (Refused e) p q h = h

-- of the entries that a batch had left, these are left
abbrev pub Leaves : List Entry → List Entry → Batch → Type 0
Leaves left now batch = (gone : List Entry) × (left ≡ gone ++ now) × EndIn gone batch

-- a batch at a moment of the walk over its entries
pub record IsAmid {A S : Type 0} (Has : A → List Row → S → Type 0) (layout : Layout) (size : ℕ) (pages : PageMap) (first batch : Batch) (begun sink : S) : Type 0 where
  pub valid : IsBatchOf layout size batch
  pub leaves : Leaves (left_in pages first) (left_in pages batch) batch
  pub behind : (start : A) (rest all : List Row) → IsBehind Has start (shown_of (left_in pages first) ++ rest) begun all
      → IsBehind Has start (shown_of (left_in pages batch) ++ rest) sink all

module _ {A S : Type 0} (Has Ends : A → List Row → S → Type 0) (layout : Layout) (size : ℕ) (pages : PageMap) where
  module _ (first old new : Batch) (begun sink : S) (amid : IsAmid Has layout size pages first old begun sink) where
    -- none is left
    pub handed_all : TookFirst layout size pages old new false → (start : A) (rest all : List Row) → IsBehind Has start (shown_of (left_in pages first) ++ rest) begun all
        → HandedOn Has Ends start sink all (left_in pages first) rest new true
    handed_all took start rest all is =
        let none = took.0 in
        let leaves = amid.leaves in
        let same : left_in pages first ≡ leaves.0 = leaves.1 ∙ ap (λ l. leaves.0 ++ l) none ∙ append-nil leaves.0 in (
          subst (λ l. IsBehind Has start (shown_of l ++ rest) sink all) none (amid.behind start rest all is),
          subst₂ EndIn (sym same) (sym took.1) leaves.2,
        )

    module _ (took : TookFirst layout size pages old new true) (fields : List ℕ) (given : fields ≡ (taken new).payload) where
      module _ (start : A) (rest all : List Row) (is : IsBehind Has start (shown_of (left_in pages first) ++ rest) begun all) where
        now : IsBehind Has start (decode fields ∷ (shown_of (left_in pages new) ++ rest)) sink all
        now = subst (λ f. IsBehind Has start (decode f ∷ (shown_of (left_in pages new) ++ rest)) sink all) (sym given)
            (subst (λ l. IsBehind Has start (shown_of l ++ rest) sink all) took.0 (amid.behind start rest all is))

        -- the entry was the last that is wanted
        pub handed_last : (later : S) → ((entries : List Row) → Has start entries sink → Ends start (entries ++ decode fields ∷ []) later) → HasWalked Has Ends start all later
        handed_last later by = stops_behind Has Ends start sink _ all now _ _ refl later (by now.0)

        -- it was refused
        pub handed_none : {E : Type 0} (Refuses : Row → E → Type 0) (e : E) → Refuses (decode fields) e → MayRefuse Refuses all e
        handed_none Refuses e may = refused_here Has Ends start sink _ all now _ _ refl Refuses e may

      -- it was taken, and more are wanted
      pub amid_next : (later : S) → ((start : A) (entries : List Row) → Has start entries sink → Has start (entries ++ decode fields ∷ []) later)
          → IsAmid Has layout size pages first new begun later
      amid_next later by = record {
        valid = took.1;
        leaves = (let l = amid.leaves in (l.0 ++ taken new ∷ [], l.1 ∙ ap (λ n. l.0 ++ n) took.0 ∙ sym (append_assoc l.0 (taken new ∷ []) (left_in pages new)), inr (l.0, refl)));
        behind = λ start rest all is. (let n = now start rest all is in goes_behind Has Ends start sink _ all n _ _ refl later (by start n.0));
      }
