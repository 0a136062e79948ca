-- The steps of loops over lists.
use Rattle.std.proofs.Common.{◌≡◌, ℕ, suc, ◌+◌, ◌<◌, List, ◌∷◌, ◌++◌, take, drop, length, get_or, false, Result, Ok, Err, OnOk, sym, ap, ap₂, ◌∙◌, add-one, arith}
use Rattle.std.specs.Result.{is_err}
use Rattle.std.proofs.Math.Seq.{drop-cons}
use Rattle.std.proofs.lemmas.List.{take-append-drop, take-take, drop-take}

-- what a call that went well has done
pub no_err : {T E : Type 0} {P : Type 0} (r : Result T E) → is_err r ≡ false → OnOk r P → P
no_err (Ok x) is p = p
no_err (Err e) is p = absurd cc

-- what follows from what a call that went well has done
pub on_ok_then : {T E : Type 0} (r : Result T E) (P Q : Type 0) → OnOk r P → (P → Q) → OnOk r Q
on_ok_then (Ok x) P Q h f = f h
on_ok_then (Err e) P Q h f = h

-- the item at a place is the first of those that are left
pub drop_at : {X : Type 0} (xs : List X) (i : ℕ) (x : X) → i < length xs → x ≡ get_or xs i x → drop i xs ≡ x ∷ drop (i + 1) xs
drop_at xs i x within is = rw (add-one, drop-cons xs i x within) (ap (λ y. y ∷ drop (suc i) xs) (sym is))

-- some items more
pub take_sum : {X : Type 0} (i n : ℕ) (xs : List X) → take (i + n) xs ≡ take i xs ++ take n (drop i xs)
take_sum i n xs = sym (take-append-drop i (take (i + n) xs)) ∙ ap₂ ◌++◌ (take-take i (i + n) xs (omega arith)) (drop-take i n xs)
