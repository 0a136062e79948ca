-- Texts cut at a byte.
use Rattle.std.proofs.Common.{◌≡◌, ℕ, suc, ◌+◌, ◌<◌, ◌==◌, not, Bool, true, false, cond, List, [], ◌∷◌, length, take, drop, Option, Some, None, refl, ap, arith}
use Rattle.std.specs.List.{position_or_len, before_first, after_first}
use Rattle.http_exchange.specs.Texts.{front_of, rest_of, cut_on, parts_of, parts_after}

cut_front : (found : Bool) (mark b : ℕ) (text front : List ℕ) (rest : Option (List ℕ)) → parts_of mark text ≡ front ∷ parts_after mark rest
    → cut_on found b (parts_of mark text) ≡ cond found [] (b ∷ front) ∷ parts_after mark (cond found (Some text) rest)
cut_front true mark b text front rest e = refl
cut_front false mark b text front rest e = rw e refl

-- the first part, and those of what follows
pub parts_cut : (mark : ℕ) (text : List ℕ) → parts_of mark text ≡ front_of mark text ∷ parts_after mark (rest_of mark text)
parts_cut mark [] = refl
parts_cut mark (b ∷ text) = cut_front (b == mark) mark b text (front_of mark text) (rest_of mark text) (parts_cut mark text)

-- ---- as a search of a text tells it

absent : (found : Bool) (mark b n : ℕ) (text : List ℕ) → (n ≡ length text → (front_of mark text ≡ text) × (rest_of mark text ≡ None))
    → cond (not found) (1 + n) 0 ≡ suc (length text) → (cond found [] (b ∷ front_of mark text) ≡ b ∷ text) × (cond found (Some text) (rest_of mark text) ≡ None)
absent true mark b n text rest e = let wrong : ⊥ = omega (arith, e) in absurd wrong
absent false mark b n text rest e = let is = rest (omega (arith, e)) in (ap (λ l. b ∷ l) is.0, is.1)

-- there is no such byte
pub cut_absent : (mark : ℕ) (text : List ℕ) → position_or_len (λ b. b == mark) text ≡ length text → (front_of mark text ≡ text) × (rest_of mark text ≡ None)
cut_absent mark [] e = (refl, refl)
cut_absent mark (b ∷ text) e = absent (b == mark) mark b (position_or_len (λ b. b == mark) text) text (cut_absent mark text) e

present : (found : Bool) (mark b n : ℕ) (text : List ℕ) → (n < length text → (front_of mark text ≡ take n text) × (rest_of mark text ≡ Some (drop (n + 1) text)))
    → cond (not found) (1 + n) 0 < suc (length text)
    → (cond found [] (b ∷ front_of mark text) ≡ take (cond (not found) (1 + n) 0) (b ∷ text)) × (cond found (Some text) (rest_of mark text) ≡ Some (drop (cond (not found) (1 + n) 0 + 1) (b ∷ text)))
present true mark b n text rest e = (refl, refl)
present false mark b n text rest e =
    let is = rest (omega (arith, e)) in
    let one : 1 + n ≡ suc n = omega arith in
    let next : (1 + n) + 1 ≡ suc (n + 1) = omega arith in (rw one (ap (λ l. b ∷ l) is.0), rw next is.1)

-- there is one
pub cut_present : (mark : ℕ) (text : List ℕ) → position_or_len (λ b. b == mark) text < length text
    → (front_of mark text ≡ before_first (λ b. b == mark) text) × (rest_of mark text ≡ Some (after_first (λ b. b == mark) text))
cut_present mark [] e = let wrong : ⊥ = omega (arith, e) in absurd wrong
cut_present mark (b ∷ text) e = present (b == mark) mark b (position_or_len (λ b. b == mark) text) text (cut_present mark text) e
