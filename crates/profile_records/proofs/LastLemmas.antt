-- The last byte that passes a test.
use Rattle.std.proofs.Common.{◌≡◌, ℕ, ◌+◌, ◌-◌, ◌<◌, Bool, true, false, not, List, length, drop, get_or, MatchOption, Option, Some, None, ap, subst, arith}
use Rattle.std.specs.List.{suffix_len}
use Rattle.std.proofs.lemmas.Bool.{not_from_false, not_from_true, false_from_ne_true}
use Rattle.std.proofs.lemmas.List.Sums.{suffix_len_is}
use Rattle.memchr.specs.Find.{IsLastByte}
use Rattle.profile_records.specs.Frames.{is_semicolon, behind_semicolon}

-- the last byte that passes a test, and how many bytes stand behind it
pub last-byte : (test : ℕ → Bool) (xs : List ℕ) (r : Option ℕ) → IsLastByte test xs r → MatchOption r (suffix_len (λ b. not (test b)) xs ≡ length xs) (λ i. (i < length xs) × (i + 1 + suffix_len (λ b. not (test b)) xs ≡ length xs))
last-byte test xs None h =
    let all = suffix_len_is (λ b. not (test b)) xs 0 0 (omega arith) (λ k low high. not_from_false _ (false_from_ne_true _ (h k (omega arith) high))) (λ lt. absurd (omega arith)) in
    omega (arith, all)
last-byte test xs (Some i) h =
    let within = h.0.high in
    let last : not (test (get_or xs (i + 1 - 1) 0)) ≡ false = not_from_true _ (subst (λ k. test (get_or xs k 0) ≡ true) (omega arith) h.1) in
    let all = suffix_len_is (λ b. not (test b)) xs (i + 1) 0 (omega (arith, within)) (λ k low high. not_from_false _ (false_from_ne_true _ (h.0.after k low high))) (λ _. last) in
    (within, omega (arith, within, all))

pub last-semicolon : (xs : List ℕ) (r : Option ℕ) → IsLastByte is_semicolon xs r → MatchOption r (xs ≡ behind_semicolon xs) (λ i. drop (i + 1) xs ≡ behind_semicolon xs)
last-semicolon xs None h =
    let all = last-byte is_semicolon xs None h in
    let none : 0 ≡ length xs - suffix_len (λ b. not (is_semicolon b)) xs = omega (arith, all) in
    ap (λ k. drop k xs) none
last-semicolon xs (Some i) h =
    let all = last-byte is_semicolon xs (Some i) h in
    let behind = all.1 in
    let from : i + 1 ≡ length xs - suffix_len (λ b. not (is_semicolon b)) xs = omega (arith, behind) in
    ap (λ k. drop k xs) from
