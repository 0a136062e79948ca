-- The fields of a text, from its front.
use Rattle.std.proofs.Common.{inl, inr, suc, ◌≡◌, ℕ, ◌+◌, ◌≤◌, Bool, false, not, cond, List, [], ◌∷◌, length, take, drop, filter, position, Some, None, refl, sym, ◌∙◌, ap, subst, arith, one-add}
use Rattle.std.specs.List.{position_or_len, slice_split, onto_first}
use Rattle.std.proofs.lemmas.Bool.{cases_Bool, cond-true}
use Rattle.std.proofs.lemmas.List.Splits.{slice_split_first}
use Rattle.cg_text.specs.Fields.{is_blank, is_field, trim_start, fields_of}
use Rattle.cg_text.proofs.SearchLemmas.{position-Some, position-None}

-- a text that begins with a field
abbrev pub BeginsField : List ℕ → Type 0
BeginsField [] = ⊥
BeginsField (b ∷ bs) = is_blank b ≡ false

-- blanks in front are no part of a field
pub fields-trim_start : (bs : List ℕ) → fields_of (trim_start bs) ≡ fields_of bs
fields-trim_start [] = refl
fields-trim_start (b ∷ bs) =
    elim (cases_Bool (is_blank b)) [
      | inl e ↦ rw (e, one-add) (fields-trim_start bs)
      | inr e ↦ rw e (rw e refl)
    ]

-- behind the blanks in front stands a field, if anything does
pub trim_start-begins : (bs : List ℕ) → (length (trim_start bs) ≡ 0 → ⊥) → BeginsField (trim_start bs)
trim_start-begins [] h = absurd (h refl)
trim_start-begins (b ∷ bs) h =
    elim (cases_Bool (is_blank b)) [
      | inl e ↦ rw (e, one-add) (trim_start-begins bs (rw (e, one-add) at h))
      | inr e ↦ rw e e
    ]

-- where nothing splits, there is one part
pub split-last : (p : ℕ → Bool) (bs : List ℕ) → length bs ≤ position_or_len p bs → slice_split p bs ≡ bs ∷ []
split-last p [] h = refl
split-last p (b ∷ bs) h =
    elim (cases_Bool (p b)) [
      | inl e ↦ absurd (let k : suc (length bs) ≤ cond (not (p b)) (1 + position_or_len p bs) 0 = h in let k' = rw e at k in omega (arith, k'))
      | inr e ↦
          let k : suc (length bs) ≤ cond (not (p b)) (1 + position_or_len p bs) 0 = h in
          let k' = rw e at k in
          rw e (ap (onto_first b) (split-last p bs (omega (arith, k'))))
    ]

-- the first part goes up to the first that splits
pub split-Some : (p : ℕ → Bool) (bs : List ℕ) (i : ℕ) → position p bs ≡ Some i → slice_split p bs ≡ take i bs ∷ slice_split p (drop (i + 1) bs)
split-Some p bs i h =
    let found = position-Some p bs i h in
    let first : slice_split p bs ≡ take (position_or_len p bs) bs ∷ slice_split p (drop (position_or_len p bs + 1) bs) = slice_split_first p bs 0 (omega (arith, found.1, found.2)) in
    subst (λ k. slice_split p bs ≡ take k bs ∷ slice_split p (drop (k + 1) bs)) found.2 first

-- or it is the last
pub split-None : (p : ℕ → Bool) (bs : List ℕ) → position p bs ≡ None → slice_split p bs ≡ bs ∷ []
split-None p bs h = let found = position-None p bs h in split-last p bs (omega (arith, found.1))

-- the first field goes up to the first blank
pub fields-Some : (bs : List ℕ) (i : ℕ) → BeginsField bs → position is_blank bs ≡ Some i → fields_of bs ≡ take i bs ∷ fields_of (drop (i + 1) bs)
fields-Some [] i begins h = absurd begins
fields-Some (b ∷ bs) i begins h =
    let n : ℕ = position_or_len is_blank bs in
    let text : List ℕ = b ∷ bs in
    let found = position-Some is_blank text i h in
    let more : position_or_len is_blank text ≡ suc n = cond-true (not (is_blank b)) (1 + n) 0 (ap not begins) ∙ one-add n in
    let first : slice_split is_blank text ≡ take (position_or_len is_blank text) text ∷ slice_split is_blank (drop (position_or_len is_blank text + 1) text) = slice_split_first is_blank text 0 (omega (arith, found.1, found.2)) in
    let here : filter is_field (take (suc n) text ∷ slice_split is_blank (drop (suc n + 1) text)) ≡ take (suc n) text ∷ fields_of (drop (suc n + 1) text) = refl in
    ap (filter is_field) first ∙ subst (λ k. filter is_field (take k text ∷ slice_split is_blank (drop (k + 1) text)) ≡ take i text ∷ fields_of (drop (i + 1) text)) (sym found.2)
    (subst (λ k. filter is_field (take k text ∷ slice_split is_blank (drop (k + 1) text)) ≡ take k text ∷ fields_of (drop (k + 1) text)) (sym more ∙ found.2) here)

-- or it is the last
pub fields-None : (bs : List ℕ) → BeginsField bs → position is_blank bs ≡ None → fields_of bs ≡ bs ∷ []
fields-None [] begins h = absurd begins
fields-None (b ∷ bs) begins h = ap (filter is_field) (split-None is_blank (b ∷ bs) h)
