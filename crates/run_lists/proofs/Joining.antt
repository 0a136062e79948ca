-- The steps of loops that read rows.
use Rattle.std.proofs.Common.{◌≡◌, ℕ, zero, suc, ◌+◌, ◌<◌, ◌≤◌, List, [], ◌∷◌, ◌++◌, map, flat_map, take, drop, length, get_or, append-nil, append_assoc, sym, ap, ap₂, ◌∙◌, arith}
use Rattle.std.proofs.lemmas.List.{map-append, take_more}

-- one item is read more
pub read_more : {X Y Z : Type 0} (f : X → Z) (g : Y → Z) (xs : List X) (ys : List Y) (k : ℕ) (x : X) (y : Y) → k < length ys → y ≡ get_or ys k y → f x ≡ g y → map f xs ≡ map g (take k ys) → map f (xs ++ x ∷ []) ≡ map g (take (k + 1) ys)
read_more f g xs ys k x y low is same h =
    map-append f xs (x ∷ []) ∙ ap₂ ◌++◌ h (ap (λ z. z ∷ []) same) ∙ sym (ap (map g) (take_more ys k y low ∙ ap (λ z. take k ys ++ z ∷ []) (sym is)) ∙ map-append g (take k ys) (y ∷ []))

take_sum : {X : Type 0} (i n : ℕ) (xs : List X) → i ≤ length xs → take (i + n) xs ≡ take i xs ++ take n (drop i xs)
take_sum zero n xs low = ap (λ k. take k xs) (omega arith)
take_sum (suc i) n [] low = absurd (omega arith)
take_sum (suc i) n (x ∷ xs) low = let more : suc i + n ≡ suc (i + n) = omega arith in ap (λ k. take k (x ∷ xs)) more ∙ ap (λ l. x ∷ l) (take_sum i n xs (omega arith))

flat_map-push : {X Y : Type 0} (f : X → List Y) (xs : List X) (x : X) → flat_map f (xs ++ x ∷ []) ≡ flat_map f xs ++ f x
flat_map-push f [] x = append-nil (f x)
flat_map-push f (z ∷ xs) x = ap (λ l. f z ++ l) (flat_map-push f xs x) ∙ sym (append_assoc (f z) (flat_map f xs) (f x))

-- the next n items are read more
pub joined_more : {X Y Z : Type 0} (f : X → List Z) (g : Y → Z) (xs : List X) (ys : List Y) (at n : ℕ) (x : X) → at ≤ length ys → f x ≡ map g (take n (drop at ys)) → flat_map f xs ≡ map g (take at ys) → flat_map f (xs ++ x ∷ []) ≡ map g (take (at + n) ys)
joined_more f g xs ys at n x low same h = flat_map-push f xs x ∙ ap₂ ◌++◌ h same ∙ sym (ap (map g) (take_sum at n ys low) ∙ map-append g (take at ys) (take n (drop at ys)))
