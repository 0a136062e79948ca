-- Lines joined, and read again.
use Rattle.std.proofs.Common.{inl, inr, ◌≡◌, ℕ, true, List, [], ◌∷◌, ◌++◌, refl, ap, sym, ◌∙◌}
use Rattle.std.specs.List.{onto_first, list_all}
use Rattle.std.proofs.lemmas.Bool.{cases_Bool, eqb-true}
use Rattle.cg_text.specs.Bytes.{line_feed}
use Rattle.cg_text.specs.Lines.{is_line_feed, is_one_line, lines_of, joined, ended}

onto_some : (b : ℕ) (ls : List (List ℕ)) → (l : List ℕ) × (more : List (List ℕ)) × (onto_first b ls ≡ l ∷ more)
onto_some b [] = (b ∷ [], [], refl)
onto_some b (l ∷ ls) = (b ∷ l, ls, refl)

-- a text that isn't empty has a first line
lines_some : (b : ℕ) (bs : List ℕ) → (l : List ℕ) × (more : List (List ℕ)) × (lines_of (b ∷ bs) ≡ l ∷ more)
lines_some b bs =
    elim (cases_Bool (is_line_feed b)) [
      | inl e ↦ ([], lines_of bs, rw e refl)
      | inr e ↦ let o = onto_some b (lines_of bs) in (o.0, o.1, rw e o.2)
    ]

-- a byte in front of the first line is a byte in front of the text
joined-onto_first : (b : ℕ) (ls : List (List ℕ)) (l : List ℕ) (more : List (List ℕ)) → ls ≡ l ∷ more → joined (onto_first b ls) ≡ b ∷ joined ls
joined-onto_first b ls l more e = rw e refl

pub joined-lines_of : (text : List ℕ) → joined (lines_of text) ≡ ended text
joined-lines_of [] = refl
joined-lines_of (b ∷ []) =
    elim (cases_Bool (is_line_feed b)) [
      | inl e ↦ rw e (ap (λ x. x ∷ []) (sym (eqb-true b line_feed e)))
      | inr e ↦ rw e refl
    ]
joined-lines_of (b ∷ c ∷ bs) =
    let rest : joined (lines_of (c ∷ bs)) ≡ ended (c ∷ bs) = joined-lines_of (c ∷ bs) in
    elim (cases_Bool (is_line_feed b)) [
      | inl e ↦ rw e (ap (λ xs. line_feed ∷ xs) rest ∙ ap (λ x. x ∷ ended (c ∷ bs)) (sym (eqb-true b line_feed e)))
      | inr e ↦ let some = lines_some c bs in rw e (joined-onto_first b (lines_of (c ∷ bs)) some.0 some.1 some.2 ∙ ap (λ xs. b ∷ xs) rest)
    ]

-- bytes without a line feed in front of one are the first line
lines-line : (l rest : List ℕ) → is_one_line l ≡ true → lines_of ((l ++ line_feed ∷ []) ++ rest) ≡ l ∷ lines_of rest
lines-line [] rest h = refl
lines-line (b ∷ bs) rest h =
    elim (cases_Bool (is_line_feed b)) [
      | inl e ↦ absurd (let k = rw e at h in cc)
      | inr e ↦ rw e (ap (onto_first b) (lines-line bs rest (rw e at h)))
    ]

pub lines_of-joined : (ls : List (List ℕ)) → list_all is_one_line ls ≡ true → lines_of (joined ls) ≡ ls
lines_of-joined [] h = refl
lines_of-joined (l ∷ ls) h =
    elim (cases_Bool (is_one_line l)) [
      | inl e ↦ lines-line l (joined ls) e ∙ ap (λ more. l ∷ more) (lines_of-joined ls (rw e at h))
      | inr e ↦ absurd (let k = rw e at h in cc)
    ]
