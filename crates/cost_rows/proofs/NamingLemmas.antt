-- Names and their numbers: a name's place is the one where it stands, and one more name changes no other's.
use Rattle.std.proofs.Common.{◌≡◌, ◌↔◌, inl, inr, ℕ, zero, suc, Bool, true, false, not, List, [], ◌∷◌, ◌++◌, length, Option, Some, None, Result, Ok, Err, refl, sym, ap, ◌∙◌}
use Rattle.std.specs.List.{list_any, slice_get}
use Rattle.std.specs.Str.{bytes_eq}
use Rattle.std.proofs.lemmas.Bool.{cases_Bool, and_parts, and_from, not-true, not_from_false, or_parts, or_from, true≢false}
use Rattle.std.proofs.lemmas.Slice.Eq.{bytes_eq-Decides}
use Rattle.std.proofs.lemmas.Map.Keys.{any_passes_from_place}
use Rattle.cg_text.specs.Distinct.{are_distinct}
use Rattle.cost_rows.specs.Naming.{further, place_of, with_name, GivesNumber}

pub same_bytes : (a b : List ℕ) → bytes_eq a b ≡ true → a ≡ b
same_bytes a b h = (bytes_eq-Decides a b).0 h

pub bytes-same : (a b : List ℕ) → a ≡ b → bytes_eq a b ≡ true
bytes-same a b e = (bytes_eq-Decides a b).1 e

-- ---- one name in front

pub place-here : (name first : List ℕ) (names : List (List ℕ)) → bytes_eq name first ≡ true → place_of name (first ∷ names) ≡ Some 0
place-here name first names h = rw h refl

pub place-further : (name first : List ℕ) (names : List (List ℕ)) → bytes_eq name first ≡ false → place_of name (first ∷ names) ≡ further (place_of name names)
place-further name first names h = rw h refl

pub with-here : (name first : List ℕ) (names : List (List ℕ)) → bytes_eq name first ≡ true → with_name name (first ∷ names) ≡ first ∷ names
with-here name first names h = rw h refl

pub with-further : (name first : List ℕ) (names : List (List ℕ)) → bytes_eq name first ≡ false → with_name name (first ∷ names) ≡ first ∷ with_name name names
with-further name first names h = rw h refl

from-further : (o : Option ℕ) (n : ℕ) → further o ≡ Some n → (m : ℕ) × (o ≡ Some m) × (n ≡ suc m)
from-further None n h = absurd (cc)
from-further (Some m) n h = (m, refl, cc)

further-none : (o : Option ℕ) → further o ≡ None → o ≡ None
further-none None h = refl
further-none (Some m) h = absurd (cc)

-- ---- the place of a name

-- a name stands at its place
pub at_place : (names : List (List ℕ)) (name : List ℕ) (n : ℕ) → place_of name names ≡ Some n → slice_get names n ≡ Some name
at_place [] name n h = absurd (cc)
at_place (first ∷ names) name n h = elim (cases_Bool (bytes_eq name first)) [
  | inl same ↦
      let here : Some 0 ≡ Some n = sym (place-here name first names same) ∙ h in
      let e : n ≡ 0 = cc in
      let is : first ≡ name = sym (same_bytes name first same) in
      rw (e, is) refl
  | inr other ↦
      let there = from-further (place_of name names) n (sym (place-further name first names other) ∙ h) in
      rw there.2 (at_place names name there.0 there.1)
]

-- the first of distinct names is not among the others
pub first-apart : (first : List ℕ) (names : List (List ℕ)) → are_distinct (first ∷ names) ≡ true → (list_any (bytes_eq first) names ≡ false) × (are_distinct names ≡ true)
first-apart first names h =
    let parts = and_parts (not (list_any (bytes_eq first) names)) (are_distinct names) h in
    (not-true (list_any (bytes_eq first) names) parts.0, parts.1)

apart-first : (name first : List ℕ) (names : List (List ℕ)) (n : ℕ) → list_any (bytes_eq first) names ≡ false → slice_get names n ≡ Some name → bytes_eq name first ≡ false
apart-first name first names n none at = elim (cases_Bool (bytes_eq name first)) [
  | inl same ↦
      let found : list_any (bytes_eq first) names ≡ true = any_passes_from_place (bytes_eq first) names n name at (bytes-same first name (sym (same_bytes name first same))) in
      absurd (true≢false (sym found ∙ none))
  | inr other ↦ other
]

-- where a name stands among distinct names is its place
pub place_at : (names : List (List ℕ)) (name : List ℕ) (n : ℕ) → are_distinct names ≡ true → slice_get names n ≡ Some name → place_of name names ≡ Some n
place_at [] name n distinct at = absurd (cc)
place_at (first ∷ names) name zero distinct at =
    let is : first ≡ name = cc in
    place-here name first names (bytes-same name first (sym is))
place_at (first ∷ names) name (suc n) distinct at =
    let parts = first-apart first names distinct in
    place-further name first names (apart-first name first names n parts.0 at)
    ∙ ap further (place_at names name n parts.1 at)

pub place-iff : (names : List (List ℕ)) (name : List ℕ) (n : ℕ) → are_distinct names ≡ true → (place_of name names ≡ Some n) ↔ (slice_get names n ≡ Some name)
place-iff names name n distinct = (at_place names name n, place_at names name n distinct)

-- two names have one place exactly where they are one name
pub apart-iff : (names : List (List ℕ)) (name other : List ℕ) (n m : ℕ) → place_of name names ≡ Some n → place_of other names ≡ Some m → (n ≡ m) ↔ (name ≡ other)
apart-iff names name other n m one two = (names_same, places_same)
  where
    names_same : n ≡ m → name ≡ other
    names_same e =
        let first : slice_get names n ≡ Some name = at_place names name n one in
        let second : slice_get names m ≡ Some other = at_place names other m two in
        let both : Some name ≡ Some other = sym first ∙ ap (slice_get names) e ∙ second in
        cc

    places_same : name ≡ other → n ≡ m
    places_same e =
        let both : Some n ≡ Some m = sym one ∙ ap (λ q. place_of q names) e ∙ two in
        cc

-- ---- one more name

-- a name that is held changes nothing
pub with-held : (names : List (List ℕ)) (name : List ℕ) (n : ℕ) → place_of name names ≡ Some n → with_name name names ≡ names
with-held [] name n h = absurd (cc)
with-held (first ∷ names) name n h = elim (cases_Bool (bytes_eq name first)) [
  | inl same ↦ with-here name first names same
  | inr other ↦
      let there = from-further (place_of name names) n (sym (place-further name first names other) ∙ h) in
      with-further name first names other ∙ ap (λ ns. first ∷ ns) (with-held names name there.0 there.1)
]

not_here : (name first : List ℕ) (names : List (List ℕ)) → place_of name (first ∷ names) ≡ None → bytes_eq name first ≡ false
not_here name first names h = elim (cases_Bool (bytes_eq name first)) [
  | inl same ↦ let none : Option ℕ = None in let e : Some 0 ≡ none = sym (place-here name first names same) ∙ h in absurd (cc)
  | inr other ↦ other
]

not_further : (name first : List ℕ) (names : List (List ℕ)) → place_of name (first ∷ names) ≡ None → place_of name names ≡ None
not_further name first names h = further-none (place_of name names) (sym (place-further name first names (not_here name first names h)) ∙ h)

-- a name that is not held goes to the end
pub with-new : (names : List (List ℕ)) (name : List ℕ) → place_of name names ≡ None → with_name name names ≡ names ++ name ∷ []
with-new [] name h = refl
with-new (first ∷ names) name h = with-further name first names (not_here name first names h) ∙ ap (λ ns. first ∷ ns) (with-new names name (not_further name first names h))

-- its place is the last
pub place-new : (names : List (List ℕ)) (name : List ℕ) → place_of name names ≡ None → place_of name (names ++ name ∷ []) ≡ Some (length names)
place-new [] name h = place-here name name [] (bytes-same name name refl)
place-new (first ∷ names) name h =
    place-further name first (names ++ name ∷ []) (not_here name first names h)
    ∙ ap further (place-new names name (not_further name first names h))

-- a place that a name has it keeps
pub place-kept : (names : List (List ℕ)) (name new : List ℕ) (n : ℕ) → place_of name names ≡ Some n → place_of name (with_name new names) ≡ Some n
place-kept [] name new n h = absurd (cc)
place-kept (first ∷ names) name new n h = elim (cases_Bool (bytes_eq new first)) [
  | inl same ↦ ap (place_of name) (with-here new first names same) ∙ h
  | inr other ↦ elim (cases_Bool (bytes_eq name first)) [
    | inl here ↦
        ap (place_of name) (with-further new first names other) ∙ place-here name first (with_name new names) here
        ∙ sym (place-here name first names here) ∙ h
    | inr there ↦
        let behind = from-further (place_of name names) n (sym (place-further name first names there) ∙ h) in
        ap (place_of name) (with-further new first names other) ∙ place-further name first (with_name new names) there
        ∙ ap further (place-kept names name new behind.0 behind.1) ∙ ap Some (sym behind.2)
  ]
]

none-with : (p : List ℕ → Bool) (names : List (List ℕ)) (new : List ℕ) → list_any p names ≡ false → p new ≡ false → list_any p (with_name new names) ≡ false
none-with p [] new none apart = or_from (p new) false apart refl
none-with p (first ∷ names) new none apart = elim (cases_Bool (bytes_eq new first)) [
  | inl same ↦ ap (list_any p) (with-here new first names same) ∙ none
  | inr other ↦
      let parts = or_parts (p first) (list_any p names) none in
      ap (list_any p) (with-further new first names other) ∙ or_from (p first) (list_any p (with_name new names)) parts.0 (none-with p names new parts.1 apart)
]

apart-swapped : (a b : List ℕ) → bytes_eq a b ≡ false → bytes_eq b a ≡ false
apart-swapped a b h = elim (cases_Bool (bytes_eq b a)) [
  | inl same ↦ absurd (true≢false (sym (bytes-same a b (sym (same_bytes b a same))) ∙ h))
  | inr other ↦ other
]

-- distinct names stay so
pub distinct-with : (names : List (List ℕ)) (new : List ℕ) → are_distinct names ≡ true → are_distinct (with_name new names) ≡ true
distinct-with [] new h = refl
distinct-with (first ∷ names) new h = elim (cases_Bool (bytes_eq new first)) [
  | inl same ↦ ap are_distinct (with-here new first names same) ∙ h
  | inr other ↦
      let parts = first-apart first names h in
      ap are_distinct (with-further new first names other)
      ∙ and_from (not (list_any (bytes_eq first) (with_name new names))) (are_distinct (with_name new names))
      (not_from_false (list_any (bytes_eq first) (with_name new names)) (none-with (bytes_eq first) names new parts.0 (apart-swapped new first other)))
      (distinct-with names new parts.1)
]

-- the same of what a call that may be refused leaves
pub distinct-after : {E : Type 0} (r : Result ℕ E) (old new : List (List ℕ)) (name : List ℕ) → are_distinct old ≡ true → GivesNumber name old r new → are_distinct new ≡ true
distinct-after (Ok n) old new name h gives = ap are_distinct gives.1 ∙ distinct-with old name h
distinct-after (Err e) old new name h same = ap are_distinct same ∙ h
