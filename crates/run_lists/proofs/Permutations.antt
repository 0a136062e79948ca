-- What stays under a permutation.
use Rattle.std.proofs.Common.{◌≡◌, ◌<◌, ◌∙◌, ℕ, zero, suc, Bool, true, false, if◌then◌else◌, Bor, List, [], ◌∷◌, map, ap, filter, length, get_or, set, swap, IsPermutation, subst, arith}
use Rattle.std.proofs.lemmas.List.Sorted.{IsPermutation-append_comm, IsPermutation-append_left, IsPermutation-cons, IsPermutation-keeps, IsPermutation-map, IsPermutation-refl, IsPermutation-trans}
use Rattle.run_lists.proofs.Rows.{map_row}

module _ {X : Type 0} (p : X → Bool) where
  -- the same are kept of the one as of the other
  KeepsSame : List X → List X → Type 0
  KeepsSame xs ys = IsPermutation (filter p xs) (filter p ys)

  -- under a head
  below_head : (x : X) (xs ys : List X) → KeepsSame xs ys → KeepsSame (x ∷ xs) (x ∷ ys)
  unfolding KeepsSame
  below_head x xs ys h = go (p x)
    where
      go : (b : Bool) → IsPermutation (if b then x ∷ filter p xs else filter p xs) (if b then x ∷ filter p ys else filter p ys)
      go true = IsPermutation-cons x (filter p xs) (filter p ys) h
      go false = h

  -- of two heads that are exchanged
  exchanged_heads : (x y : X) (xs : List X) → KeepsSame (x ∷ y ∷ xs) (y ∷ x ∷ xs)
  unfolding KeepsSame
  exchanged_heads x y xs = go (p x) (p y)
    where
      rest : List X
      rest = filter p xs

      go : (a b : Bool) → IsPermutation (if a then x ∷ (if b then y ∷ filter p xs else filter p xs) else (if b then y ∷ filter p xs else filter p xs)) (if b then y ∷ (if a then x ∷ filter p xs else filter p xs) else (if a then x ∷ filter p xs else filter p xs))
      go true true = IsPermutation-append_left (filter p xs) (x ∷ y ∷ []) (y ∷ x ∷ []) (IsPermutation-append_comm (x ∷ []) (y ∷ []))
      go true false = IsPermutation-refl (x ∷ filter p xs)
      go false true = IsPermutation-refl (y ∷ filter p xs)
      go false false = IsPermutation-refl (filter p xs)

  chained : (xs ys zs : List X) → KeepsSame xs ys → KeepsSame ys zs → KeepsSame xs zs
  unfolding KeepsSame
  chained xs ys zs = IsPermutation-trans (filter p xs) (filter p ys) (filter p zs)

  -- of a head that goes to a place
  moved_head : (l : List X) (j : ℕ) (x d : X) → j < length l → KeepsSame (x ∷ l) (get_or l j d ∷ set l j x)
  moved_head [] j x d h = absurd (omega arith)
  moved_head (y ∷ l) zero x d h = exchanged_heads x y l
  moved_head (y ∷ l) (suc j) x d h =
      chained _ _ _ (exchanged_heads x y l) (chained _ _ _ (below_head y _ _ (moved_head l j x d (omega arith))) (exchanged_heads y (get_or l j d) (set l j x)))

  exchanged : (l : List X) (i j : ℕ) (d : X) → i < length l → j < length l → KeepsSame l (set (set l i (get_or l j d)) j (get_or l i d))
  unfolding KeepsSame
  exchanged [] i j d low high = absurd (omega arith)
  exchanged (x ∷ l) zero zero d low high = IsPermutation-refl (filter p (x ∷ l))
  exchanged (x ∷ l) zero (suc j) d low high = moved_head l j x d (omega arith)
  exchanged (x ∷ l) (suc i) zero d low high = moved_head l i x d (omega arith)
  exchanged (x ∷ l) (suc i) (suc j) d low high = below_head x _ _ (exchanged l i j d (omega arith) (omega arith))

  swapped : (l : List X) (i j : ℕ) → i < length l → j < length l → KeepsSame l (swap l i j)
  unfolding KeepsSame
  swapped [] i j low high = IsPermutation-refl []
  swapped (x ∷ l) i j low high = exchanged (x ∷ l) i j x low high

  pub IsPermutation-filter : (xs ys : List X) → IsPermutation xs ys → IsPermutation (filter p xs) (filter p ys)
  unfolding KeepsSame
  IsPermutation-filter xs = IsPermutation-keeps xs (KeepsSame xs) (IsPermutation-refl (filter p xs)) (λ l i j low high h. chained xs l _ h (swapped l i j low high))

-- rows that are lent, in another order
pub lent_moved : {X Y : Type 0} (row : X → Y) (xs : List X) (lent moved : List (Bor X)) → map (λ (b : Bor X). b.now) lent ≡ xs → IsPermutation lent moved → IsPermutation (map row xs) (map (λ (b : Bor X). row b.now) moved)
lent_moved {X} row xs lent moved are same =
    subst (λ l. IsPermutation l (map (λ (b : Bor X). row b.now) moved)) (map_row (λ (b : Bor X). b.now) row lent ∙ ap (map row) are) (IsPermutation-map (λ (b : Bor X). row b.now) lent moved same)
