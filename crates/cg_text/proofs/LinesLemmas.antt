-- The lines of a text, from its front.
use Rattle.std.proofs.Common.{inl, inr, subst, suc, ◌≡◌, ℕ, ◌+◌, ◌<◌, ◌≤◌, not, cond, List, [], ◌∷◌, length, take, drop, position, Some, None, refl, ap, arith, add-one, one-add}
use Rattle.std.specs.List.{onto_first, position_or_len}
use Rattle.std.proofs.lemmas.Bool.{cases_Bool}
use Rattle.cg_text.specs.Lines.{is_line_feed, lines_of}
use Rattle.cg_text.proofs.SearchLemmas.{position-Some, position-None}

-- up to the first line feed is the first line, and after it the others
lines-at : (bs : List ℕ) → position_or_len is_line_feed bs < length bs → lines_of bs ≡ take (position_or_len is_line_feed bs) bs ∷ lines_of (drop (position_or_len is_line_feed bs + 1) bs)
lines-at [] h = absurd (omega arith)
lines-at (b ∷ bs) h =
    elim (cases_Bool (is_line_feed b)) [
      | inl e ↦ rw e refl
      | inr e ↦
          let within : position_or_len is_line_feed bs < length bs = (let k : cond (not (is_line_feed b)) (1 + position_or_len is_line_feed bs) 0 < suc (length bs) = h in let k' = rw e at k in omega (arith, k')) in
          rw (e, one-add, add-one) (rw (lines-at bs within) (rw add-one refl))
    ]

last_onto : (b : ℕ) (bs : List ℕ) → ((bs ≡ [] → ⊥) → lines_of bs ≡ bs ∷ []) → onto_first b (lines_of bs) ≡ (b ∷ bs) ∷ []
last_onto b [] ih = refl
last_onto b (c ∷ bs) ih = ap (onto_first b) (ih (λ e. cc))

-- with no line feed, what is not empty is one line
lines-last : (bs : List ℕ) → length bs ≤ position_or_len is_line_feed bs → (bs ≡ [] → ⊥) → lines_of bs ≡ bs ∷ []
lines-last [] h ne = absurd (ne refl)
lines-last (b ∷ bs) h ne =
    elim (cases_Bool (is_line_feed b)) [
      | inl e ↦ absurd (let k : suc (length bs) ≤ cond (not (is_line_feed b)) (1 + position_or_len is_line_feed bs) 0 = h in let k' = rw e at k in omega (arith, k'))
      | inr e ↦
          let k : suc (length bs) ≤ cond (not (is_line_feed b)) (1 + position_or_len is_line_feed bs) 0 = h in
          let k' = rw e at k in
          let rest : length bs ≤ position_or_len is_line_feed bs = omega (arith, k') in
          rw e (last_onto b bs (λ ne'. lines-last bs rest ne'))
    ]

-- the same of what `position` finds
pub lines-Some : (bs : List ℕ) (i : ℕ) → position is_line_feed bs ≡ Some i → lines_of bs ≡ take i bs ∷ lines_of (drop (i + 1) bs)
lines-Some bs i h =
    let found = position-Some is_line_feed bs i h in
    let within : position_or_len is_line_feed bs < length bs = omega (arith, found.1, found.2) in
    subst (λ j. lines_of bs ≡ take j bs ∷ lines_of (drop (j + 1) bs)) found.2 (lines-at bs within)

pub lines-None : (bs : List ℕ) → position is_line_feed bs ≡ None → (bs ≡ [] → ⊥) → lines_of bs ≡ bs ∷ []
lines-None bs h ne = let found = position-None is_line_feed bs h in lines-last bs (omega (arith, found.1)) ne
