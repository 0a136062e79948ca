-- The last of the frames of a stack.
use Rattle.std.proofs.Common.{inl, inr, ◌⊎◌, ◌≡◌, ℕ, suc, ◌+◌, ◌-◌, ◌<◌, Bool, true, false, not, List, [], ◌∷◌, ◌++◌, length, drop, map, reverse, cond, eqb, refl, sym, ap, ◌∙◌, arith}
use Rattle.std.specs.List.{slice_split, suffix_len, prefix_len, onto_first}
use Rattle.std.proofs.lemmas.Bool.{cases_Bool, eqb-false, ne_eqb}
use Rattle.std.proofs.lemmas.List.{map-append, length-reverse}
use Rattle.std.proofs.lemmas.List.Folds.{prefix_len-append}
use Rattle.std.proofs.lemmas.Grind.{reverse_onto}
use Rattle.std.proofs.lemmas.List.Sums.{suffix_len-le-length}
use Rattle.profile_records.specs.Frames.{is_semicolon, function_of, functions_of, behind_semicolon, leaf_of}

abbrev is_name : ℕ → Bool
is_name b = not (is_semicolon b)

suffix-cons : (x : ℕ) (xs : List ℕ) → suffix_len is_name (x ∷ xs) ≡ cond (eqb (suffix_len is_name xs) (length xs)) (length xs + prefix_len is_name (x ∷ [])) (suffix_len is_name xs)
suffix-cons x xs =
    ap (prefix_len is_name) (reverse_onto xs x []) ∙ prefix_len-append is_name (reverse xs) (x ∷ []) ∙
    ap (λ n. cond (eqb (suffix_len is_name xs) n) (n + prefix_len is_name (x ∷ [])) (suffix_len is_name xs)) (length-reverse xs)

all_pass : (s l k : ℕ) → s ≡ l → cond (eqb s l) (l + k) s ≡ l + k
all_pass s l k h =
    elim (cases_Bool (eqb s l)) [
      | inl e ↦ rw e refl
      | inr e ↦ absurd (eqb-false s l e h)
    ]

suffix-whole : (x : ℕ) (xs : List ℕ) → suffix_len is_name xs ≡ length xs → is_semicolon x ≡ false → suffix_len is_name (x ∷ xs) ≡ length (x ∷ xs)
suffix-whole x xs e goes =
    let one : prefix_len is_name (x ∷ []) ≡ 1 = rw goes refl in
    suffix-cons x xs ∙ all_pass _ _ _ e ∙ omega (arith, one)

suffix-half : (x : ℕ) (xs : List ℕ) → suffix_len is_name xs ≡ length xs → is_semicolon x ≡ true → suffix_len is_name (x ∷ xs) ≡ suffix_len is_name xs
suffix-half x xs e cuts =
    let none : prefix_len is_name (x ∷ []) ≡ 0 = rw cuts refl in
    suffix-cons x xs ∙ all_pass _ _ _ e ∙ omega (arith, none, e)

suffix-part : (x : ℕ) (xs : List ℕ) → suffix_len is_name xs < length xs → suffix_len is_name (x ∷ xs) ≡ suffix_len is_name xs
suffix-part x xs h = suffix-cons x xs ∙ rw (ne_eqb (suffix_len is_name xs) (length xs) (λ e. omega (arith, e, h))) refl

behind-cons : (x : ℕ) (xs : List ℕ) → suffix_len is_name (x ∷ xs) ≡ suffix_len is_name xs → behind_semicolon (x ∷ xs) ≡ behind_semicolon xs
behind-cons x xs e =
    let most = suffix_len-le-length is_name xs in
    let from : length (x ∷ xs) - suffix_len is_name (x ∷ xs) ≡ suc (length xs - suffix_len is_name xs) = omega (arith, e, most) in
    ap (λ k. drop k (x ∷ xs)) from

behind-all : (xs : List ℕ) → suffix_len is_name xs ≡ length xs → behind_semicolon xs ≡ xs
behind-all xs e = let none : length xs - suffix_len is_name xs ≡ 0 = omega (arith, e) in ap (λ k. drop k xs) none

-- one frame, or some and then the last
abbrev Parts : List ℕ → Type 0
Parts xs = ((slice_split is_semicolon xs ≡ xs ∷ []) × (suffix_len is_name xs ≡ length xs))
    ⊎ ((f : List ℕ) × (fs : List (List ℕ)) × (slice_split is_semicolon xs ≡ (f ∷ fs) ++ behind_semicolon xs ∷ []) × (suffix_len is_name xs < length xs))

cut_here : (x : ℕ) (xs : List ℕ) → is_semicolon x ≡ true → Parts xs → Parts (x ∷ xs)
cut_here x xs cuts (inl p) =
    let half = suffix-half x xs p.1 cuts in
    let full = p.1 in
    inr ([], [], rw cuts (ap (λ ps. [] ∷ ps) (p.0 ∙ ap (λ l. l ∷ []) (sym (behind-cons x xs half ∙ behind-all xs p.1)))), omega (arith, half, full))
cut_here x xs cuts (inr p) =
    let part = suffix-part x xs p.3 in
    let less = p.3 in
    inr ([], p.0 ∷ p.1, rw cuts (ap (λ ps. [] ∷ ps) (p.2 ∙ ap (λ l. (p.0 ∷ p.1) ++ l ∷ []) (sym (behind-cons x xs part)))), omega (arith, part, less))

go_on : (x : ℕ) (xs : List ℕ) → is_semicolon x ≡ false → Parts xs → Parts (x ∷ xs)
go_on x xs goes (inl p) = inl (rw goes (ap (onto_first x) p.0), suffix-whole x xs p.1 goes)
go_on x xs goes (inr p) =
    let part = suffix-part x xs p.3 in
    let less = p.3 in
    inr (x ∷ p.0, p.1, rw goes (ap (onto_first x) (p.2 ∙ ap (λ l. (p.0 ∷ p.1) ++ l ∷ []) (sym (behind-cons x xs part)))), omega (arith, part, less))

parts : (xs : List ℕ) → Parts xs
parts [] = inl (refl, refl)
parts (x ∷ xs) = elim (cases_Bool (is_semicolon x)) [ inl cuts ↦ cut_here x xs cuts (parts xs) | inr goes ↦ go_on x xs goes (parts xs) ]

-- the leaf is the last function
leaf_of_parts : (xs : List ℕ) → Parts xs → (callers : List (List ℕ)) × (functions_of xs ≡ callers ++ leaf_of xs ∷ [])
leaf_of_parts xs (inl p) = ([], ap (map function_of) p.0 ∙ ap (λ l. function_of l ∷ []) (sym (behind-all xs p.1)))
leaf_of_parts xs (inr p) = (map function_of (p.0 ∷ p.1), ap (map function_of) p.2 ∙ map-append function_of (p.0 ∷ p.1) (behind_semicolon xs ∷ []))

pub leaf-last : (xs : List ℕ) → (callers : List (List ℕ)) × (functions_of xs ≡ callers ++ leaf_of xs ∷ [])
leaf-last xs = leaf_of_parts xs (parts xs)
