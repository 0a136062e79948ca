-- The rows of a run among those of a list, and what they say.
use Rattle.std.proofs.Common.{◌≡◌, ◌≤◌, ◌<◌, ◌+◌, ◌++◌, ℕ, Bool, true, false, List, [], ◌∷◌, map, filter, take, length, get_or, inl, inr, refl, sym, ap, ap₂, ◌∙◌, subst, IsPermutation, ◌||◌, append-nil}
use Rattle.std.proofs.lemmas.Bool.{cases_Bool}
use Rattle.std.specs.List.{list_any}
use Rattle.std.proofs.lemmas.List.{map_push, take_all, take_more}
use Rattle.std.proofs.lemmas.List.Elements.{filter-append}
use Rattle.std.proofs.lemmas.List.Sorted.{IsPermutation-map}

-- of the rows that pass, what they say
abbrev pub kept : {L R E : Type 0} → (L → R) → (R → Bool) → (R → E) → List L → List E
kept row passes says lines = map says (filter passes (map row lines))

-- a test of lines is one of their rows, so lists that have the same lines of a run have the same rows of it
filtered : {L R : Type 0} (row : L → R) (passes : R → Bool) (lines : List L) → filter passes (map row lines) ≡ map row (filter (λ line. passes (row line)) lines)
filtered row passes [] = refl
filtered row passes (line ∷ lines) = elim (cases_Bool (passes (row line))) [
  | inl here ↦ rw here (ap (λ rest. row line ∷ rest) (filtered row passes lines))
  | inr other ↦ rw other (filtered row passes lines)
]

pub kept_same : {L R E : Type 0} (row : L → R) (passes : R → Bool) (says : R → E) (some all : List L) → filter (λ line. passes (row line)) some ≡ filter (λ line. passes (row line)) all
    → kept row passes says some ≡ kept row passes says all
kept_same row passes says some all same = ap (map says) (filtered row passes some ∙ ap (map row) same ∙ sym (filtered row passes all))

-- lines that were read to the end say it in another order once they are moved
pub all_kept : {L R E X : Type 0} (row : L → R) (passes : R → Bool) (says : R → E) (entry : X → E) (lines : List L) (at : ℕ) (read moved : List X) → length lines ≤ at → map entry read ≡ kept row passes says (take at lines) → IsPermutation read moved
    → IsPermutation (kept row passes says lines) (map entry moved)
all_kept row passes says entry lines at read moved all was same =
    subst (λ l. IsPermutation (kept row passes says l) (map entry moved)) (take_all at lines all) (subst (λ l. IsPermutation l (map entry moved)) was (IsPermutation-map entry read moved same))

-- a test of lines is one of their rows
pub any_row : {L R : Type 0} (row : L → R) (p : R → Bool) (q : L → Bool) → ((line : L) → q line ≡ p (row line)) → (lines : List L) → list_any q lines ≡ list_any p (map row lines)
any_row row p q same [] = refl
any_row row p q same (line ∷ lines) = ap₂ (λ a b. a || b) (same line) (any_row row p q same lines)

-- ---- a line more

rows_more : {L R : Type 0} (row : L → R) (lines : List L) (at : ℕ) (line : L) → at < length lines → line ≡ get_or lines at line → map row (take (at + 1) lines) ≡ map row (take at lines) ++ row line ∷ []
rows_more row lines at line low there = ap (map row) (take_more lines at line low ∙ ap (λ x. take at lines ++ x ∷ []) (sym there)) ∙ map_push row (take at lines) line

alone : {R : Type 0} (passes : R → Bool) (r : R) → passes r ≡ true → filter passes (r ∷ []) ≡ r ∷ []
alone passes r here = rw here refl

none : {R : Type 0} (passes : R → Bool) (r : R) → passes r ≡ false → filter passes (r ∷ []) ≡ []
none passes r other = rw other refl

-- what was made of it is one more
pub next_made : {L X E : Type 0} (row : L → E) (entry : X → E) (lines : List L) (at : ℕ) (line : L) (read new : List X) (x : X) → at < length lines → line ≡ get_or lines at line → map entry read ≡ map row (take at lines) → new ≡ read ++ x ∷ []
    → entry x ≡ row line → map entry new ≡ map row (take (at + 1) lines)
next_made row entry lines at line read new x low there was pushed is =
    ap (map entry) pushed ∙ map_push entry read x ∙ ap₂ (λ front e. front ++ e ∷ []) was is ∙ sym (rows_more row lines at line low there)

-- the same, where it passes
pub next_kept : {L R E X : Type 0} (row : L → R) (passes : R → Bool) (says : R → E) (entry : X → E) (lines : List L) (at : ℕ) (line : L) (read new : List X) (x : X) → at < length lines → line ≡ get_or lines at line → passes (row line) ≡ true
    → map entry read ≡ kept row passes says (take at lines) → new ≡ read ++ x ∷ [] → entry x ≡ says (row line) → map entry new ≡ kept row passes says (take (at + 1) lines)
next_kept row passes says entry lines at line read new x low there here was pushed is =
    let before = filter passes (map row (take at lines)) in
    ap (map entry) pushed ∙ map_push entry read x ∙ ap₂ (λ front e. front ++ e ∷ []) was is
    ∙ sym (ap (λ rows. map says (filter passes rows)) (rows_more row lines at line low there)
    ∙ ap (map says) (filter-append passes (map row (take at lines)) (row line ∷ []) ∙ ap (λ l. before ++ l) (alone passes (row line) here)) ∙ map_push says before (row line))

-- and where it does not
pub next_passed : {L R E X : Type 0} (row : L → R) (passes : R → Bool) (says : R → E) (entry : X → E) (lines : List L) (at : ℕ) (line : L) (read : List X) → at < length lines → line ≡ get_or lines at line → passes (row line) ≡ false
    → map entry read ≡ kept row passes says (take at lines) → map entry read ≡ kept row passes says (take (at + 1) lines)
next_passed row passes says entry lines at line read low there other was =
    let before = filter passes (map row (take at lines)) in
    was ∙ ap (map says) (sym (ap (filter passes) (rows_more row lines at line low there) ∙ filter-append passes (map row (take at lines)) (row line ∷ []) ∙ ap (λ l. before ++ l) (none passes (row line) other) ∙ append-nil before))
