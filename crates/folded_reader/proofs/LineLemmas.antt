-- The last blank of a line, and counts.
use Rattle.std.proofs.Common.{inl, inr, ◌≡◌, ℕ, zero, suc, ◌+◌, ◌-◌, ◌<◌, ◌^◌, Bool, true, false, List, [], ◌∷◌, length, take, drop, MatchOption, Option, nat_eq, nat_le, nat_lt, if◌then◌else◌, codes, Result, Ok, Err, refl, sym, ap, ◌∙◌, arith}
use Rattle.std.specs.List.{list_all, starts_with}
use Rattle.std.proofs.lemmas.Bool.{cases_Bool, and_parts, leb-true, ne_eqb, lt-ltb}
use Rattle.memchr.specs.Find.{IsLastByte}
use Rattle.cg_text.specs.Fields.{is_blank}
use Rattle.cg_text.specs.Numbers.{is_digit, number_of, amount_of, below_half, value_in}
use Rattle.cg_text.specs.declared.faults.Fault.{Fault}
use Rattle.cg_text.specs.declared.faults.Fault.TheVariants.{NumberTooLarge}
use Rattle.profile_records.proofs.LastLemmas.{last-byte}
use Rattle.profile_records.specs.Stacks.{Stack}
use Rattle.folded_reader.specs.Lines.{behind_blank, or_folded, count_of, counted, stack_of, some_stack, text_says}

-- ---- the last blank

pub last-blank : (xs : List ℕ) (r : Option ℕ) → IsLastByte is_blank xs r → MatchOption r (behind_blank xs ≡ length xs) (λ i. (i < length xs) × (i + 1 + behind_blank xs ≡ length xs))
last-blank = last-byte is_blank

-- ---- counts

decimal-no_hexadecimal : (digits : List ℕ) → list_all is_digit digits ≡ true → starts_with nat_eq digits (codes "0x") ≡ false
decimal-no_hexadecimal [] all = refl
decimal-no_hexadecimal (b ∷ []) all = elim (cases_Bool (nat_eq 48 b)) [ inl e ↦ rw e refl | inr e ↦ rw e refl ]
decimal-no_hexadecimal (b ∷ c ∷ bs) all =
    let rest = (and_parts (is_digit b) (list_all is_digit (c ∷ bs)) all).1 in
    let digit = (and_parts (is_digit c) (list_all is_digit bs) rest).0 in
    let small = leb-true c 57 (and_parts (nat_le 48 c) (nat_le c 57) digit).1 in
    let other : nat_eq 120 c ≡ false = ne_eqb 120 c (λ e. omega (arith, small, e)) in
    elim (cases_Bool (nat_eq 48 b)) [ inl e ↦ rw (e, other) refl | inr e ↦ rw e refl ]

folded_if : (a : Bool) (n : ℕ) → below_half (if a then Ok n else Err NumberTooLarge) ≡ or_folded (below_half (if a then Ok n else Err NumberTooLarge))
folded_if true n = elim (cases_Bool (nat_lt n (2 ^ 63))) [ inl e ↦ rw e refl | inr e ↦ rw e refl ]
folded_if false n = refl

-- digits are a count as they are an amount
pub count-amount : (digits : List ℕ) → (length digits ≡ 0 → ⊥) → list_all is_digit digits ≡ true → amount_of digits ≡ count_of digits
unfolding amount_of number_of
count-amount [] some all = absurd (some refl)
count-amount (b ∷ bs) some all =
    let plain = decimal-no_hexadecimal (b ∷ bs) all in
    rw plain (rw all (folded_if (nat_lt (value_in 10 (b ∷ bs)) (2 ^ 64)) (value_in 10 (b ∷ bs))))

-- ---- lines

-- frames and a text that is no count
pub no-count : (text : List ℕ) (i : ℕ) (f : Fault) → i < length text → (i ≡ 0 → ⊥) → i + 1 + behind_blank text ≡ length text → count_of (drop (i + 1) text) ≡ Err f → Err f ≡ text_says text
no-count [] i f within some behind none = absurd (omega (arith, within))
no-count (b ∷ bs) zero f within some behind none = absurd (some refl)
no-count (b ∷ bs) (suc i) f within some behind none =
    let n = behind_blank (b ∷ bs) in
    let less = lt-ltb n (length (b ∷ bs)) (omega (arith, behind)) in
    let before : length (b ∷ bs) - n - 1 ≡ suc i = omega (arith, behind) in
    let from : length (b ∷ bs) - n ≡ suc i + 1 = omega (arith, behind) in
    let front : List ℕ → ℕ → Result (Option Stack) Fault = λ digits k. some_stack (stack_of (take k (b ∷ bs)) digits) in
    let here : text_says (b ∷ bs) ≡ front (drop (length (b ∷ bs) - n) (b ∷ bs)) (length (b ∷ bs) - n - 1) = rw less refl in
    let cut : front (drop (length (b ∷ bs) - n) (b ∷ bs)) (length (b ∷ bs) - n - 1) ≡ front (drop (suc i + 1) (b ∷ bs)) (suc i) = ap (λ k. front (drop k (b ∷ bs)) (length (b ∷ bs) - n - 1)) from ∙ ap (front (drop (suc i + 1) (b ∷ bs))) before in
    sym (here ∙ (cut ∙ ap (λ r. some_stack (counted (b ∷ take i bs) r)) none))
