-- Lists that are compared place by place.
use Rattle.std.proofs.Common.{◌≡◌, suc, List, [], ◌∷◌, length, refl, ap₂, arith}
use Rattle.std.specs.List.{AllWithin, AllZip, zip}

-- what holds of each pair holds place by place
pub zipped : {A B : Type 0} (R : A → B → Type 0) (xs : List A) (ys : List B) → length xs ≡ length ys
    → AllWithin (λ (p : A × B). R p.0 p.1) (zip xs ys) 0 (length (zip xs ys)) → AllZip R xs ys
zipped R [] [] same all = tt
zipped R [] (y ∷ ys) same all = absurd (omega arith)
zipped R (x ∷ xs) [] same all = absurd (omega arith)
zipped R (x ∷ xs) (y ∷ ys) same all = (
  all 0 (x, y) (omega arith) (omega arith),
  zipped R xs ys (omega arith) (λ k d low high. all (suc k) d (omega arith) (omega arith)),
)

-- lists that are equal place by place are one
pub same_zipped : {A : Type 0} (xs ys : List A) → AllZip (λ (x y : A). x ≡ y) xs ys → xs ≡ ys
same_zipped [] [] all = refl
same_zipped [] (y ∷ ys) all = absurd all
same_zipped (x ∷ xs) [] all = absurd all
same_zipped (x ∷ xs) (y ∷ ys) all = ap₂ ◌∷◌ all.0 (same_zipped xs ys all.1)
