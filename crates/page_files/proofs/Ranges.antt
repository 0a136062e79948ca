-- Cells of a page, from one place up to another.
use Rattle.std.proofs.Common.{◌≡◌, ℕ, Bool, true, false, MatchBool, map, ◌+◌, ◌-◌, ◌<◌, ◌≤◌, List, [], ◌∷◌, ◌++◌, length, take, drop, get_or, All, ap, subst, ◌∙◌, arith, length-drop}
use Rattle.std.proofs.lemmas.List.{get_or-drop, get_or-map, length-map, take_more}

pub range_more : {X : Type 0} (xs : List X) (from i : ℕ) (d : X) → from ≤ i → i < length xs → take (i + 1 - from) (drop from xs) ≡ take (i - from) (drop from xs) ++ get_or xs i d ∷ []
range_more xs from i d low high =
    let next : i + 1 - from ≡ (i - from) + 1 = omega arith in
    let place : from + (i - from) ≡ i = omega arith in
    ap (λ n. take n (drop from xs)) next ∙ take_more (drop from xs) (i - from) d (omega (arith, length-drop from xs))
    ∙ ap (λ x. take (i - from) (drop from xs) ++ x ∷ []) (get_or-drop from xs (i - from) d ∙ ap (λ n. get_or xs n d) place)

-- what all have that is seen of elements
pub all_of_map : {X Y : Type 0} (f : X → Y) (P : Y → Type 0) (xs : List X) → All P (map f xs) → All (λ x. P (f x)) xs
all_of_map f P xs all i d within = subst P (get_or-map f xs i d (f d) within) (all i (f d) (omega (arith, within, length-map xs f)))

-- where a test says yes
pub if_true : (b : Bool) (P Q : Type 0) → b ≡ true → MatchBool b P Q → P
if_true true P Q is h = h
if_true false P Q is h = absurd cc
