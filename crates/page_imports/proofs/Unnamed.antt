-- Names that come once are not held before they come.
use Rattle.std.proofs.Common.{◌≡◌, ◌<◌, ℕ, Bool, true, false, not, ◌||◌, bytes_eq, List, [], ◌∷◌, ◌++◌, drop, get_or, length, suc, take, refl, sym, ap, subst, ◌∙◌, drop-cons}
use Rattle.std.specs.List.{list_any}
use Rattle.std.proofs.Math.ListN.{take-append-drop}
use Rattle.std.proofs.lemmas.Bool.{and_parts}
use Rattle.cg_text.specs.Distinct.{are_distinct}
use Rattle.plain_tables.specs.Changes.{has_name, named, next_name}
use Rattle.plain_tables.specs.Files.{all_named}
use Rattle.plain_tables.specs.Tables.{Tables, NameRow}
use Rattle.plain_tables.proofs.Numbering.{named_held, named_new}

neither : (a b : Bool) → (a || b) ≡ false → (a ≡ false) × (b ≡ false)
neither true b none = absurd cc
neither false b none = (refl, none)

both_false : (a b : Bool) → a ≡ false → b ≡ false → (a || b) ≡ false
both_false true b x y = absurd cc
both_false false b x y = y

negated : (b : Bool) → not b ≡ true → b ≡ false
negated true e = absurd cc
negated false e = refl

in_middle : (p : List ℕ → Bool) (front : List (List ℕ)) (name : List ℕ) (rest : List (List ℕ)) → list_any p (front ++ name ∷ rest) ≡ false → p name ≡ false
in_middle p [] name rest none = (neither (p name) (list_any p rest) none).0
in_middle p (x ∷ front) name rest none = in_middle p front name rest (neither (p x) (list_any p (front ++ name ∷ rest)) none).1

-- a name of a list of names that stand once is not among those before it
apart_before : (front : List (List ℕ)) (name : List ℕ) (rest : List (List ℕ)) → are_distinct (front ++ name ∷ rest) ≡ true → list_any (λ other. bytes_eq other name) front ≡ false
apart_before [] name rest once = refl
apart_before (x ∷ front) name rest once =
    let parts = and_parts (not (list_any (bytes_eq x) (front ++ name ∷ rest))) (are_distinct (front ++ name ∷ rest)) once in
    both_false (bytes_eq x name) (list_any (λ other. bytes_eq other name) front) (in_middle (bytes_eq x) front name rest (negated _ parts.0)) (apart_before front name rest parts.1)

pub apart_at : (names : List (List ℕ)) (at : ℕ) (d : List ℕ) → are_distinct names ≡ true → at < length names → list_any (λ other. bytes_eq other (get_or names at d)) (take at names) ≡ false
apart_at names at d once low =
    let whole : names ≡ take at names ++ get_or names at d ∷ drop (suc at) names = sym (take-append-drop at names) ∙ ap (λ l. take at names ++ l) (drop-cons names at d low) in
    apart_before (take at names) (get_or names at d) (drop (suc at) names) (subst (λ l. are_distinct l ≡ true) whole once)

behind_none : (p : NameRow → Bool) (lines : List NameRow) (line : NameRow) → list_any p lines ≡ false → p line ≡ false → list_any p (lines ++ line ∷ []) ≡ false
behind_none p [] line none last = both_false (p line) false last refl
behind_none p (x ∷ lines) line none last =
    let parts = neither (p x) (list_any p lines) none in
    both_false (p x) (list_any p (lines ++ line ∷ [])) parts.0 (behind_none p lines line parts.1 last)

other_named : (t : Tables) (x name : List ℕ) → has_name t name ≡ false → bytes_eq x name ≡ false → has_name (named x t) name ≡ false
other_named t x name none apart = go (has_name t x) refl
  where
    go : (b : Bool) → has_name t x ≡ b → has_name (named x t) name ≡ false
    go true e = ap (λ (u : Tables). has_name u name) (named_held t x e) ∙ none
    go false e = ap (λ (u : Tables). has_name u name) (named_new t x e) ∙ behind_none (λ (line : NameRow). bytes_eq line.name name) t.names (record { number = next_name t.names; name = x }) none apart

-- a name that is not held is not held once others are
pub not_yet : (front : List (List ℕ)) (t : Tables) (name : List ℕ) → has_name t name ≡ false → list_any (λ other. bytes_eq other name) front ≡ false → has_name (all_named front t) name ≡ false
not_yet [] t name none apart = none
not_yet (x ∷ front) t name none apart =
    let parts = neither (bytes_eq x name) (list_any (λ other. bytes_eq other name) front) apart in
    not_yet front (named x t) name (other_named t x name none parts.0) parts.1

-- where no name is held, this is not
pub none_held : (t : Tables) (name : List ℕ) → t.names ≡ [] → has_name t name ≡ false
none_held t name empty = ap (λ (lines : List NameRow). list_any (λ (line : NameRow). bytes_eq line.name name) lines) empty
