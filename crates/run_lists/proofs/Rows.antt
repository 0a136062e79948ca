-- Lists beside the rows that they show.
use Rattle.std.proofs.Common.{◌≡◌, ◌<◌, ◌||◌, ◌∙◌, true, false, if◌then◌else◌, filter, Result, Ok, Err, OnOk, ℕ, zero, suc, Bool, List, [], ◌∷◌, map, length, get_or, inl, inr, refl, sym, ap, subst, arith}
use Rattle.std.specs.List.{list_any}
use Rattle.std.specs.Result.{is_ok}
use Rattle.std.proofs.lemmas.List.Folds.{list_any_none}
use Rattle.plain_tables.specs.Lists.{Has}

-- whether one is there
pub any_row : {X Y : Type 0} (row : X → Y) (p : Y → Bool) (xs : List X) → list_any (λ x. p (row x)) xs ≡ list_any p (map row xs)
any_row row p [] = refl
any_row row p (x ∷ xs) = ap (λ b. p (row x) || b) (any_row row p xs)

-- one that was read is there
pub has_row : {X Y : Type 0} (row : X → Y) (xs : List X) (i : ℕ) (x : X) → i < length xs → x ≡ get_or xs i x → Has (map row xs) (row x)
has_row row [] i x low is = absurd (omega arith)
has_row row (y ∷ ys) zero x low is = inl (ap row is)
has_row row (y ∷ ys) (suc i) x low is = inr (has_row row ys i x (omega arith) is)

-- what holds of all that were read holds of each that is there
pub each_row : {X Y : Type 0} (row : X → Y) (P : Y → Type 0) (xs : List X) → ((k : ℕ) (d : X) → k < length xs → P (row (get_or xs k d))) → (y : Y) → Has (map row xs) y → P y
each_row row P [] all y there = absurd there
each_row row P (x ∷ xs) all y (inl same) = subst P (sym same) (all 0 x (omega arith))
each_row row P (x ∷ xs) all y (inr later) = each_row row P xs (λ k d low. all (suc k) d (omega arith)) y later

-- the same, where the lists that were read are those of the rows
module _ {X Y : Type 0} (row : X → Y) (xs items : List X) (lines : List Y) (same : items ≡ xs) (was : map row xs ≡ lines) where
  pub has_line : (i : ℕ) (x : X) → i < length items → x ≡ get_or items i x → Has lines (row x)
  has_line i x low is = subst (λ l. Has l (row x)) (ap (map row) same ∙ was) (has_row row items i x low is)

  pub each_line : (P : Y → Type 0) → ((k : ℕ) (d : X) → k < length items → P (row (get_or items k d))) → (y : Y) → Has lines y → P y
  each_line P all y there = each_row row P items all y (subst (λ l. Has l y) (sym (ap (map row) same ∙ was)) there)

  -- none that was read passes the test, so no row does
  pub none_there : (p : Y → Bool) → ((k : ℕ) (d : X) → k < length items → p (row (get_or items k d)) ≡ false) → list_any p lines ≡ false
  none_there p none = subst (λ l. list_any p l ≡ false) (ap (map row) same ∙ was) (sym (any_row row p items) ∙ list_any_none (λ x. p (row x)) items none)

-- a part of what is there
pub map_row : {X Y Z : Type 0} (row : X → Y) (part : Y → Z) (xs : List X) → map (λ x. part (row x)) xs ≡ map part (map row xs)
map_row row part [] = refl
map_row row part (x ∷ xs) = ap (λ l. part (row x) ∷ l) (map_row row part xs)

-- what holds of what a call that went well made
pub is_ok_then : {T E : Type 0} {P : Type 0} (r : Result T E) → is_ok r ≡ true → OnOk r P → P
is_ok_then (Ok x) is p = p
is_ok_then (Err e) is p = absurd cc

-- those that pass a test
pub filter_row : {X Y : Type 0} (row : X → Y) (p : Y → Bool) (xs : List X) → filter p (map row xs) ≡ map row (filter (λ x. p (row x)) xs)
filter_row row p [] = refl
filter_row row p (x ∷ xs) = go (p (row x)) (filter_row row p xs)
  where
    go : (b : Bool) → filter p (map row xs) ≡ map row (filter (λ y. p (row y)) xs)
        → (if b then row x ∷ filter p (map row xs) else filter p (map row xs)) ≡ map row (if b then x ∷ filter (λ y. p (row y)) xs else filter (λ y. p (row y)) xs)
    go true rest = ap (λ l. row x ∷ l) rest
    go false rest = rest
