-- One more byte of a text.
use Rattle.std.proofs.lemmas.List.Quantifiers.{position-Some}
use Rattle.cg_text.proofs.SearchLemmas as searches
use Rattle.cg_text.proofs.SearchLemmas.{position-None}
use Rattle.std.proofs.Common.{inl, inr, suc, zero, take, drop, get_or, position, Some, None, ◌<◌, subst, not, ◌≤◌, ◌≡◌, ℕ, ◌+◌, cond, eqb, List, [], ◌∷◌, ◌++◌, length, map, refl, sym, ◌∙◌, ap, arith}
use Rattle.std.proofs.lemmas.Bool.{cases_Bool, ne_eqb, eqb-false, eqb-true}
use Rattle.std.proofs.lemmas.List.{append_assoc, append-nil, map-append, take-append-drop, take_more, take_all}
use Rattle.std.specs.List.{onto_first, AllByRecursion, position_or_len}
use Rattle.cg_text.specs.Lines.{lines_of}
use Rattle.text_pieces.specs.Cut.{Cut, cut, in_front}
use Rattle.text_pieces.specs.Backwards.{onto, back_of, end_of}

abbrev lf_front : Cut → Cut
lf_front c = record { lines = [] ∷ c.lines; rest = c.rest }

-- what LF does to what has come so far
abbrev ended : Cut → Cut
ended c = record { lines = c.lines ++ c.rest ∷ []; rest = [] }

abbrev front : ℕ → Cut → Cut
front b c = cond (eqb b 10) (lf_front c) (in_front b c.lines c.rest)

front_ended : (b : ℕ) (lines : List (List ℕ)) (rest : List ℕ) → front b (ended (record { lines = lines; rest = rest })) ≡ ended (front b (record { lines = lines; rest = rest }))
front_ended b [] rest =
    elim (cases_Bool (eqb b 10)) [
      | inl e ↦ rw e refl
      | inr e ↦ rw e refl
    ]
front_ended b (l ∷ ls) rest =
    elim (cases_Bool (eqb b 10)) [
      | inl e ↦ rw e refl
      | inr e ↦ rw e refl
    ]

-- a line feed ends a line
pub cut-lf : (text : List ℕ) → cut (text ++ 10 ∷ []) ≡ ended (cut text)
cut-lf [] = refl
cut-lf (b ∷ bs) = ap (front b) (cut-lf bs) ∙ front_ended b (cut bs).lines (cut bs).rest

abbrev longer : ℕ → Cut → Cut
longer c k = record { lines = k.lines; rest = k.rest ++ c ∷ [] }

front_longer : (b c : ℕ) (lines : List (List ℕ)) (rest : List ℕ) → front b (longer c (record { lines = lines; rest = rest })) ≡ longer c (front b (record { lines = lines; rest = rest }))
front_longer b c [] rest =
    elim (cases_Bool (eqb b 10)) [
      | inl e ↦ rw e refl
      | inr e ↦ rw e refl
    ]
front_longer b c (l ∷ ls) rest =
    elim (cases_Bool (eqb b 10)) [
      | inl e ↦ rw e refl
      | inr e ↦ rw e refl
    ]

-- another byte makes the unfinished line longer
pub cut-byte : (text : List ℕ) (c : ℕ) → (c ≡ 10 → ⊥) → cut (text ++ c ∷ []) ≡ longer c (cut text)
cut-byte [] c ne = rw (ne_eqb c 10 ne) refl
cut-byte (b ∷ bs) c ne = ap (front b) (cut-byte bs c ne) ∙ front_longer b c (cut bs).lines (cut bs).rest

onto_push : {A : Type 0} (xs : List A) (r : A) (back : List A) → onto (xs ++ r ∷ []) back ≡ r ∷ onto xs back
onto_push [] r back = refl
onto_push (x ∷ xs) r back = onto_push xs r (x ∷ back)

-- the line that a line feed ends is the nearest
pub back-lf : {A : Type 0} (says : List ℕ → A) (text : List ℕ) → (back_of says (text ++ 10 ∷ []) ≡ says (cut text).rest ∷ back_of says text) × ((cut (text ++ 10 ∷ [])).rest ≡ [])
back-lf says text =
    let back : back_of says (text ++ 10 ∷ []) ≡ says (cut text).rest ∷ back_of says text =
    ap (λ (k : Cut). onto (map says k.lines) []) (cut-lf text) ∙ ap (λ xs. onto xs []) (map-append says (cut text).lines ((cut text).rest ∷ [])) ∙ onto_push (map says (cut text).lines) (says (cut text).rest) [] in
    (back, ap (λ (k : Cut). k.rest) (cut-lf text))

-- and nothing is left
pub rest-lf : (text : List ℕ) → (cut (text ++ 10 ∷ [])).rest ≡ []
rest-lf text = ap (λ (k : Cut). k.rest) (cut-lf text)

pub back-byte : {A : Type 0} (says : List ℕ → A) (text : List ℕ) (c : ℕ) → (c ≡ 10 → ⊥) → (back_of says (text ++ c ∷ []) ≡ back_of says text) × ((cut (text ++ c ∷ [])).rest ≡ (cut text).rest ++ c ∷ [])
back-byte says text c ne = (ap (λ (k : Cut). onto (map says k.lines) []) (cut-byte text c ne), ap (λ (k : Cut). k.rest) (cut-byte text c ne))

-- ---- at the end of a file

-- what is left is a line if it is not empty
abbrev pub last : List ℕ → List (List ℕ)
last [] = []
last (b ∷ bs) = (b ∷ bs) ∷ []

onto_last : (b : ℕ) (ls : List (List ℕ)) (rest : List ℕ) → onto_first b (ls ++ last rest) ≡ (in_front b ls rest).lines ++ last (in_front b ls rest).rest
onto_last b [] [] = refl
onto_last b [] (c ∷ cs) = refl
onto_last b (l ∷ ls) rest = refl

-- the lines of a text are its whole lines, and what is left
pub lines-cut : (text : List ℕ) → lines_of text ≡ (cut text).lines ++ last (cut text).rest
lines-cut [] = refl
lines-cut (b ∷ bs) =
    elim (cases_Bool (eqb b 10)) [
      | inl e ↦ rw e (ap (λ ls. [] ∷ ls) (lines-cut bs))
      | inr e ↦ rw e (ap (onto_first b) (lines-cut bs) ∙ onto_last b (cut bs).lines (cut bs).rest)
    ]

at_end : {A : Type 0} (says : List ℕ → A) (text rest : List ℕ) → (cut text).rest ≡ rest → end_of says text ≡ onto (map says ((cut text).lines ++ last rest)) []
at_end says text rest e = ap (λ ls. onto (map says ls) []) (lines-cut text ∙ ap (λ xs. (cut text).lines ++ last xs) e)

-- nothing is left
pub end-none : {A : Type 0} (says : List ℕ → A) (text : List ℕ) → (cut text).rest ≡ [] → end_of says text ≡ back_of says text
end-none says text e = at_end says text [] e ∙ ap (λ ls. onto (map says ls) []) (append-nil (cut text).lines)

-- what is left is the last line
pub end-some : {A : Type 0} (says : List ℕ → A) (text : List ℕ) → ((cut text).rest ≡ [] → ⊥) → end_of says text ≡ says (cut text).rest ∷ back_of says text
end-some {A} says text ne = go text (cut text).rest refl ne
  where
    go : (text rest : List ℕ) → (cut text).rest ≡ rest → (rest ≡ [] → ⊥) → end_of says text ≡ says rest ∷ back_of says text
    go text [] e ne = absurd (ne refl)
    go text (b ∷ bs) e ne = at_end says text (b ∷ bs) e ∙ ap (λ xs. onto xs []) (map-append says (cut text).lines ((b ∷ bs) ∷ [])) ∙ onto_push (map says (cut text).lines) (says (b ∷ bs)) []

-- a run of bytes without a line feed makes the unfinished line longer
pub back-run : {A : Type 0} (says : List ℕ → A) (xs text : List ℕ) → AllByRecursion (λ b. b ≡ 10 → ⊥) xs → (back_of says (text ++ xs) ≡ back_of says text) × ((cut (text ++ xs)).rest ≡ (cut text).rest ++ xs)
back-run says [] text h = (ap (back_of says) (append-nil text), ap (λ t. (cut t).rest) (append-nil text) ∙ sym (append-nil (cut text).rest))
back-run says (x ∷ xs) text h =
    let here = back-byte says text x h.0 in
    let later = back-run says xs (text ++ x ∷ []) h.1 in
    let same = append_assoc text (x ∷ []) xs in
    (ap (back_of says) (sym same) ∙ later.0 ∙ here.0, ap (λ t. (cut t).rest) (sym same) ∙ later.1 ∙ ap (λ ys. ys ++ xs) here.1 ∙ append_assoc (cut text).rest (x ∷ []) xs)

pub rest-run : (xs text : List ℕ) → AllByRecursion (λ b. b ≡ 10 → ⊥) xs → (cut (text ++ xs)).rest ≡ (cut text).rest ++ xs
rest-run xs text none = (back-run (λ line. line) xs text none).1

-- before the first line feed there is none
pub run-before : (bs : List ℕ) (i : ℕ) → i ≤ position_or_len (λ b. eqb b 10) bs → AllByRecursion (λ b. b ≡ 10 → ⊥) (take i bs)
run-before bs zero h = tt
run-before [] (suc i) h = tt
run-before (b ∷ bs) (suc i) h =
    elim (cases_Bool (eqb b 10)) [
      | inl e ↦ absurd (let k : suc i ≤ cond (not (eqb b 10)) (1 + position_or_len (λ b. eqb b 10) bs) 0 = h in let k' = rw e at k in omega (arith, k'))
      | inr e ↦ (eqb-false b 10 e, run-before bs i (let k : suc i ≤ cond (not (eqb b 10)) (1 + position_or_len (λ b. eqb b 10) bs) 0 = h in let k' = rw e at k in omega (arith, k')))
    ]

-- at the first line feed a text is the bytes before it, the line feed and the rest
pub split-lf : (bs : List ℕ) (i : ℕ) → position (λ b. eqb b 10) bs ≡ Some i → (i < length bs) × AllByRecursion (λ b. b ≡ 10 → ⊥) (take i bs) × (bs ≡ (take i bs ++ 10 ∷ []) ++ drop (i + 1) bs)
split-lf bs i h =
    let p = position-Some (λ b. eqb b 10) bs i 0 h in
    let here : get_or bs i 0 ≡ 10 = eqb-true _ _ p.1 in
    let q = searches.position-Some (λ b. eqb b 10) bs i h in
    let within : i < length bs = p.0 in
    (within, run-before bs i (omega arith), sym (take-append-drop (i + 1) bs) ∙ ap (λ xs. xs ++ drop (i + 1) bs) (take_more bs i 0 within ∙ ap (λ x. take i bs ++ x ∷ []) here))

pub no-lf : (bs : List ℕ) → position (λ b. eqb b 10) bs ≡ None → AllByRecursion (λ b. b ≡ 10 → ⊥) bs
no-lf bs h =
    let p = position-None (λ b. eqb b 10) bs h in
    subst (λ xs. AllByRecursion (λ b. b ≡ 10 → ⊥) xs) (take_all (length bs) bs (omega arith)) (run-before bs (length bs) (omega arith))

-- a run and a line feed behind it end the line that the run makes longer
pub back-line : {A : Type 0} (says : List ℕ → A) (run text : List ℕ) → AllByRecursion (λ b. b ≡ 10 → ⊥) run → (back_of says (text ++ (run ++ 10 ∷ [])) ≡ says ((cut text).rest ++ run) ∷ back_of says text) × ((cut (text ++ (run ++ 10 ∷ []))).rest ≡ [])
back-line says run text none =
    let more = back-run says run text none in
    let end = back-lf says (text ++ run) in
    let same = sym (append_assoc text run (10 ∷ [])) in (
      ap (back_of says) same ∙ end.0 ∙ ap (λ line. says line ∷ back_of says (text ++ run)) more.1 ∙ ap (λ lines. says ((cut text).rest ++ run) ∷ lines) more.0,
      ap (λ xs. (cut xs).rest) same ∙ end.1,
    )
