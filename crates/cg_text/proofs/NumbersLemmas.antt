-- The number of digits is no smaller than that of the digits before.
use Rattle.std.proofs.Common.{Bool, Err, List, Ok, [], add-one, ap, arith, drop, fold, get_or, if◌then◌else◌, inl, inr, length, refl, suc, sym, take, true, ℕ, ◌*◌, ◌+◌, ◌<◌, ◌^◌, ◌∙◌, ◌∷◌, ◌≡◌, ◌≤◌}
use Rattle.std.proofs.Math.Nat.{le-mul_of_pos_right}
use Rattle.std.proofs.lemmas.Grind.{fold-append}
use Rattle.std.proofs.lemmas.List.{take-append-drop, take_more}
use Rattle.std.specs.List.{list_all}
use Rattle.std.proofs.lemmas.Bool.{cases_Bool, lt-ltb, le-ltb}
use Rattle.cg_text.specs.declared.faults.Fault.TheVariants.{BadNumber, NumberTooLarge}
use Rattle.cg_text.specs.Numbers.{digit_value, value_in, digits_in}

-- one more digit behind a number
abbrev with_digit : ℕ → ℕ → ℕ → ℕ
with_digit base n b = n * base + digit_value b

fold-ge : (base n : ℕ) (bs : List ℕ) → 0 < base → n ≤ fold (with_digit base) n bs
fold-ge base n [] pos = omega arith
fold-ge base n (b ∷ bs) pos =
    let rest = fold-ge base (with_digit base n b) bs pos in
    let more = le-mul_of_pos_right n pos in
    omega (arith, rest, more)

-- the digits up to one, and that one, are no more than all
pub value_in-more : (base : ℕ) (bs : List ℕ) (i : ℕ) → 0 < base → i < length bs → value_in base (take i bs) * base + digit_value (get_or bs i 0) ≤ value_in base bs
value_in-more base bs i pos within =
    let split : value_in base bs ≡ fold (with_digit base) (value_in base (take (suc i) bs)) (drop (suc i) bs) = ap (value_in base) (sym (take-append-drop (suc i) bs)) ∙ fold-append (with_digit base) 0 (take (suc i) bs) (drop (suc i) bs) in
    let here : value_in base (take (suc i) bs) ≡ value_in base (take i bs) * base + digit_value (get_or bs i 0) = ap (value_in base) (rw add-one at (take_more bs i 0 within)) ∙ fold-append (with_digit base) 0 (take i bs) (get_or bs i 0 ∷ []) in
    let ge = fold-ge base (value_in base (take (suc i) bs)) (drop (suc i) bs) pos in
    omega (arith, split, here, ge)

-- digits whose number fits
pub digits_in-fits : (base : ℕ) (is_one : ℕ → Bool) (digits : List ℕ) (n : ℕ) → (length digits ≡ 0 → ⊥) → list_all is_one digits ≡ true → n ≡ value_in base digits → n < 2 ^ 64 → Ok n ≡ digits_in base is_one digits
digits_in-fits base is_one [] n some all value fits = absurd (some refl)
digits_in-fits base is_one (b ∷ bs) n some all value fits = rw all (rw (← value) (rw (lt-ltb n (2 ^ 64) fits) refl))

-- digits whose number is too large, if they are digits
pub digits_in-large : (base : ℕ) (is_one : ℕ → Bool) (digits : List ℕ) → (length digits ≡ 0 → ⊥) → 2 ^ 64 ≤ value_in base digits → Err (if list_all is_one digits then NumberTooLarge else BadNumber) ≡ digits_in base is_one digits
digits_in-large base is_one [] some large = absurd (some refl)
digits_in-large base is_one (b ∷ bs) some large =
    elim (cases_Bool (list_all is_one (b ∷ bs))) [
      | inl e ↦ rw e (rw (le-ltb (value_in base (b ∷ bs)) (2 ^ 64) large) refl)
      | inr e ↦ rw e refl
    ]
