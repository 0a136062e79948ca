-- The terms of a formula, from its front.
use Rattle.std.proofs.Common.{inl, inr, ◌≡◌, ℕ, ◌+◌, true, false, List, [], ◌∷◌, length, take, drop, map, position, Option, Some, None, is_some, refl, sym, ◌∙◌, ap}
use Rattle.std.specs.List.{slice_split}
use Rattle.std.proofs.lemmas.Bool.{cases_Bool, both_ways}
use denote.Ref.{Bor}
use Rattle.cg_formulas.specs.EventLines.{Term, term_of, all_terms, with_first, is_plus, formula_of}
use Rattle.cg_formulas.specs.EventViews.{leading, terms_in}
use Rattle.cg_text.proofs.FieldsLemmas.{split-Some, split-None}

-- a term and a formula
abbrev pub with_term : Option Term → Option (List Term) → Option (List Term)
with_term None more = None
with_term (Some t) more = with_first t more

all_terms-cons : (t : Option Term) (ts : List (Option Term)) → all_terms (t ∷ ts) ≡ with_term t (all_terms ts)
all_terms-cons None ts = refl
all_terms-cons (Some t) ts = refl

-- up to the first `+` is the first term
formula-Some : (bs : List ℕ) (i : ℕ) → position is_plus bs ≡ Some i → formula_of bs ≡ with_term (term_of (take i bs)) (formula_of (drop (i + 1) bs))
unfolding formula_of
formula-Some bs i h =
    ap (λ parts. all_terms (map term_of parts)) (split-Some is_plus bs i h)
    ∙ all_terms-cons (term_of (take i bs)) (map term_of (slice_split is_plus (drop (i + 1) bs)))

-- or it is the only one
formula-None : (bs : List ℕ) → position is_plus bs ≡ None → formula_of bs ≡ with_term (term_of bs) (Some [])
unfolding formula_of
formula-None bs h = ap (λ parts. all_terms (map term_of parts)) (split-None is_plus bs h) ∙ all_terms-cons (term_of bs) []

-- ---- the first term of a text, and the others

-- the terms of parts, of which this is the first
abbrev led : Option Term → List Term → List Term
led None ts = []
led (Some t) ts = t ∷ ts

leading-cons : (t : Option Term) (ts : List (Option Term)) → leading (t ∷ ts) ≡ led t (leading ts)
leading-cons None ts = refl
leading-cons (Some t) ts = refl

terms-Some : (bs : List ℕ) (i : ℕ) → position is_plus bs ≡ Some i → terms_in bs ≡ led (term_of (take i bs)) (terms_in (drop (i + 1) bs))
unfolding terms_in
terms-Some bs i h =
    ap (λ parts. leading (map term_of parts)) (split-Some is_plus bs i h)
    ∙ leading-cons (term_of (take i bs)) (map term_of (slice_split is_plus (drop (i + 1) bs)))

terms-None : (bs : List ℕ) → position is_plus bs ≡ None → terms_in bs ≡ led (term_of bs) []
unfolding terms_in
terms-None bs h = ap (λ parts. leading (map term_of parts)) (split-None is_plus bs h) ∙ leading-cons (term_of bs) []

-- up to the next `+` stands a term
pub begins-more : (bs : List ℕ) (i : ℕ) (t : Term) → position is_plus bs ≡ Some i → Some t ≡ term_of (take i bs)
    → (formula_of bs ≡ with_first t (formula_of (drop (i + 1) bs))) × (terms_in bs ≡ t ∷ terms_in (drop (i + 1) bs))
begins-more bs i t found is =
    (formula-Some bs i found ∙ ap (λ o. with_term o (formula_of (drop (i + 1) bs))) (sym is), terms-Some bs i found ∙ ap (λ o. led o (terms_in (drop (i + 1) bs))) (sym is))

-- or none
pub begins-bad : (bs : List ℕ) (i : ℕ) → position is_plus bs ≡ Some i → None ≡ term_of (take i bs) → (formula_of bs ≡ None) × (terms_in bs ≡ [])
begins-bad bs i found is =
    (formula-Some bs i found ∙ ap (λ o. with_term o (formula_of (drop (i + 1) bs))) (sym is), terms-Some bs i found ∙ ap (λ o. led o (terms_in (drop (i + 1) bs))) (sym is))

-- with no `+`, the text is the last term
pub begins-last : (bs : List ℕ) (t : Term) → position is_plus bs ≡ None → Some t ≡ term_of bs → (formula_of bs ≡ with_first t (Some [])) × (terms_in bs ≡ t ∷ [])
begins-last bs t found is = (formula-None bs found ∙ ap (λ o. with_term o (Some [])) (sym is), terms-None bs found ∙ ap (λ o. led o []) (sym is))

-- or none
pub begins-last_bad : (bs : List ℕ) → position is_plus bs ≡ None → None ≡ term_of bs → (formula_of bs ≡ None) × (terms_in bs ≡ [])
begins-last_bad bs found is = (formula-None bs found ∙ ap (λ o. with_term o (Some [])) (sym is), terms-None bs found ∙ ap (λ o. led o []) (sym is))

-- a formula has all its terms
leading-all : (parts : List (Option Term)) → is_some (all_terms parts) ≡ true → Some (leading parts) ≡ all_terms parts
leading-all [] h = refl
leading-all (None ∷ parts) h = cc
leading-all (Some t ∷ parts) h =
    elim (cases_Bool (is_some (all_terms parts))) [
      | inl e ↦ ap (with_first t) (leading-all parts e)
      | inr e ↦ absurd (both_ways _ (with-none t (all_terms parts) e) h)
    ]
  where
    with-none : (t : Term) (o : Option (List Term)) → is_some o ≡ false → is_some (with_first t o) ≡ false
    with-none t None e = refl
    with-none t (Some ts) e = cc

pub formula-terms : (text : List ℕ) → is_some (formula_of text) ≡ true → Some (terms_in text) ≡ formula_of text
unfolding formula_of terms_in
formula-terms text h = leading-all (map term_of (slice_split is_plus text)) h

-- how much is behind a `+`
abbrev pub size_behind : Option (Bor (List ℕ)) → ℕ
size_behind None = 0
size_behind (Some rest) = length rest.now + 1
