-- What a search for a byte finds, in the words of the definitions.
use Rattle.std.proofs.Common.{inl, inr, ◌≡◌, ℕ, ◌<◌, ◌≤◌, Bool, true, false, cond, ltb, get_or, List, [], length, drop, position, Option, Some, None, refl, sym, ap, ◌∙◌, arith}
use Rattle.std.specs.List.{position_or_len}
use Rattle.std.proofs.lemmas.Bool.{cases_Bool, ltb-true, ltb-false, cond_below, cond_above}
use Rattle.std.proofs.lemmas.List.{drop_all}
use Rattle.std.proofs.lemmas.List.Sums.{prefix_len-le-length, position_or_len_is}
use Rattle.memchr.specs.Find.{IsFirstByte}

-- what `position` finds is how many elements stand in front of it
pub position-Some : {X : Type 0} (p : X → Bool) (xs : List X) (i : ℕ) → position p xs ≡ Some i → (position p xs ≡ position p xs) × (i < length xs) × (position_or_len p xs ≡ i)
position-Some p xs i h =
    elim (cases_Bool (ltb (position_or_len p xs) (length xs))) [
      | inl e ↦
          let k : cond (ltb (position_or_len p xs) (length xs)) (Some (position_or_len p xs)) None ≡ Some i = h in
          let k' = rw e at k in
          let same : position_or_len p xs ≡ i = cc in
          let lt = ltb-true _ _ e in
          (refl, omega arith, same)
      | inr e ↦
          let k : cond (ltb (position_or_len p xs) (length xs)) (Some (position_or_len p xs)) None ≡ Some i = h in
          let k' = rw e at k in cc
    ]

-- where it finds nothing, all elements stand in front
pub position-None : {X : Type 0} (p : X → Bool) (xs : List X) → position p xs ≡ None → (position p xs ≡ position p xs) × (position_or_len p xs ≡ length xs) × (drop (position_or_len p xs) xs ≡ [])
position-None {X} p xs h =
    elim (cases_Bool (ltb (position_or_len p xs) (length xs))) [
      | inl e ↦
          let k : cond (ltb (position_or_len p xs) (length xs)) (Some (position_or_len p xs)) None ≡ None = h in
          let k' = rw e at k in cc
      | inr e ↦
          let le = ltb-false _ _ e in
          let most : position_or_len p xs ≤ length xs = prefix_len-le-length _ xs in
          (refl, omega arith, drop_all _ xs le)
    ]

pub ruleset place_rules = (position-Some, position-None)

fails_at : (b : Bool) → (b ≡ true → ⊥) → b ≡ false
fails_at b h = elim (cases_Bool b) [ inl e ↦ absurd (h e) | inr e ↦ e ]

-- the first byte that passes a test is the one that `position` finds
pub position-first_byte : (p : ℕ → Bool) (xs : List ℕ) (r : Option ℕ) → IsFirstByte p xs r → r ≡ position p xs
position-first_byte p xs None h =
    let none = position_or_len_is p xs (length xs) 0 (omega arith) (λ k lt. fails_at (p (get_or xs k 0)) (h k (omega arith) lt)) (λ lt. absurd (omega arith)) in
    cond_above (position_or_len p xs) (length xs) (Some (position_or_len p xs)) None None (omega (arith, none)) refl
position-first_byte p xs (Some i) h =
    let within = h.0.high in
    let here = position_or_len_is p xs i 0 (omega arith) (λ k lt. fails_at (p (get_or xs k 0)) (h.0.before k (omega arith) lt)) (λ _. h.1) in
    ap Some (sym here) ∙ cond_below (position_or_len p xs) (length xs) (Some (position_or_len p xs)) None (omega (arith, here, within))

pub ruleset search_rules = (position-first_byte)
