-- The first entry that begins with a prefix, among those of an index.
use Rattle.std.proofs.Common.{◌≡◌, cond, ℕ, Bool, true, false, List, [], ◌∷◌, ◌++◌, map, refl, sym, ap, subst, ◌∙◌, inl, inr, is_lt, is_eq, is_gt, Ordering, Less, Equal, Greater}
use Rattle.std.proofs.lemmas.Bool.{cases_Bool}
use Rattle.sqlite_pages.specs.PageMap.{PageMap}
use Rattle.sqlite_btree.specs.declared.batch.Batch.{Batch}
use Rattle.sqlite_btree.specs.Batch.{taken, IsFilled, TookFirst}
use Rattle.sqlite_btree.specs.Chain.{Layout}
use Rattle.sqlite_btree.specs.Cut.{Ascends, Each, IsIn, from_cut}
use Rattle.sqlite_btree.specs.Stored.{as_record}
use Rattle.sqlite_btree.proofs.CutLemmas.{Each-from, Each-in, gt_from_parts, gt_parts}
use Rattle.sqlite_record.specs.Record.{decode}
use Rattle.sqlite_store.specs.Db.{record_order}
use Rattle.sqlite_store.specs.Sides.{below_or_above}
use Rattle.sqlite_store.proofs.OrderLemmas.{below_is, less}
use Rattle.sqlite_trees.proofs.TreeLemmas.{prefix_cmp_follows}
use Rattle.sqlite_value.specs.declared.keys.Order.{Order}
use Rattle.sqlite_value.specs.Keys.{prefix_cmp}
use Rattle.sqlite_value.specs.Order.{Row}
use Rattle.page_files.specs.Removals.{has_prefix}
use Rattle.page_files.specs.Sought.{IsUnder}

not_eq_of_lt : (o : Ordering) → is_lt o ≡ true → is_eq o ≡ false
not_eq_of_lt Less h = refl
not_eq_of_lt Equal h = absurd cc
not_eq_of_lt Greater h = absurd cc

module _ (k : Order) (prefix : Row) where
  abbrev side : List ℕ → Ordering
  side x = below_or_above (prefix_cmp k (decode x) prefix)

  abbrev Out : List (List ℕ) → Type 0
  Out = Each (λ x. has_prefix k prefix (decode x) ≡ false)

  -- none begins so, where the first that is not below does not
  pub none_under : (xs : List (List ℕ)) → Ascends (record_order k) xs → ((x : List ℕ) (rest : List (List ℕ)) → from_cut side xs ≡ x ∷ rest → has_prefix k prefix (decode x) ≡ false) → Out xs
  none_under [] up first = tt
  none_under (x ∷ xs) up first = elim (cases_Bool (is_lt (side x))) [
    | inl low ↦ (not_eq_of_lt _ (sym (below_is _) ∙ low), none_under xs up.1 (λ y rest is. first y rest (rw low is)))
    | inr high ↦ let out = first x xs (rw high refl) in
        let above = gt_from_parts (prefix_cmp k (decode x) prefix) (sym (below_is _) ∙ high) out in
        (out, Each-from _ xs (λ y at. (gt_parts _ ((prefix_cmp_follows k prefix (decode x) (decode y) (ap is_gt (less _ (Each-in (λ z. record_order k x z ≡ true) xs y up.0 at)))).1 above)).1))
  ]

  first_in : (xs : List (List ℕ)) (x : List ℕ) (rest : List (List ℕ)) → from_cut side xs ≡ x ∷ rest → IsIn x xs
  first_in [] x rest is = absurd cc
  first_in (y ∷ xs) x rest is = elim (cases_Bool (is_lt (side y))) [
    | inl low ↦ inr (first_in xs x rest (subst (λ b. cond b (from_cut side xs) (y ∷ xs) ≡ x ∷ rest) low is))
    | inr high ↦ let e = subst (λ b. cond b (from_cut side xs) (y ∷ xs) ≡ x ∷ rest) high is in inl cc
  ]

  module _ (layout : Layout) (size : ℕ) (pages : PageMap) (records : List (List ℕ)) (up : Ascends (record_order k) records) (old new : Batch)
      (filled : IsFilled as_record (from_cut side records) layout size pages old) where
    pub none_left : TookFirst layout size pages old new false → IsUnder k prefix records (taken new).payload false
    none_left took =
        let none : from_cut side records ≡ [] = filled.parts ∙ ap (λ es. map as_record es ++ filled.rest) took.0 ∙ filled.ends took.0 in
        none_under records up (λ x rest is. absurd (let e = sym none ∙ is in cc))

    pub first_is : TookFirst layout size pages old new true → (b : Bool) → b ≡ has_prefix k prefix (decode (taken new).payload) → IsUnder k prefix records (taken new).payload b
    first_is took true is = (first_in records _ _ (filled.parts ∙ ap (λ es. map as_record es ++ filled.rest) took.0), sym is)
    first_is took false is =
        let first = filled.parts ∙ ap (λ es. map as_record es ++ filled.rest) took.0 in
        none_under records up (λ x rest at. let e = sym first ∙ at in let same : (taken new).payload ≡ x = cc in subst (λ y. has_prefix k prefix (decode y) ≡ false) same (sym is))
