-- What the lines of a text add comes first among what those of a longer text add.
use Rattle.std.proofs.Common.{inl, inr, ◌⊎◌, ◌≡◌, ℕ, List, [], ◌∷◌, ◌++◌, refl, sym, ◌∙◌, ap, subst}
use Rattle.std.proofs.lemmas.Bool.{cases_eq}
use Rattle.std.proofs.lemmas.List.{append-nil, append_assoc}
use Rattle.text_pieces.specs.Cut.{cut}
use Rattle.text_pieces.specs.Backwards.{back_of, end_of, handed_on, IsPrefix}
use Rattle.text_pieces.proofs.CutLemmas.{back-lf, back-byte, end-none, end-some}

none_more : {B : Type 0} (xs : List B) → IsPrefix xs xs
none_more xs = ([], sym (append-nil xs))

pub follows : {B : Type 0} (xs ys zs : List B) → IsPrefix xs ys → IsPrefix ys zs → IsPrefix xs zs
follows xs ys zs a b = (a.0 ++ b.0, b.1 ∙ ap (λ l. l ++ b.0) a.1 ∙ append_assoc xs a.0 b.0)

byte_prefix : {A B : Type 0} (says : List ℕ → A) (adds : A → List A → List B) (text : List ℕ) (b : ℕ) → IsPrefix (handed_on adds (back_of says text)) (handed_on adds (back_of says (text ++ b ∷ [])))
byte_prefix says adds text b =
    elim (cases_eq b 10) [
      | inl e ↦ subst (λ c. IsPrefix (handed_on adds (back_of says text)) (handed_on adds (back_of says (text ++ c ∷ [])))) (sym e) (adds (says (cut text).rest) (back_of says text), ap (handed_on adds) (back-lf says text).0)
      | inr ne ↦ ([], ap (handed_on adds) (back-byte says text b ne).0 ∙ sym (append-nil (handed_on adds (back_of says text))))
    ]

-- more bytes only add
pub held_prefix : {A B : Type 0} (says : List ℕ → A) (adds : A → List A → List B) (text bytes : List ℕ) → IsPrefix (handed_on adds (back_of says text)) (handed_on adds (back_of says (text ++ bytes)))
held_prefix says adds text [] = subst (λ t. IsPrefix (handed_on adds (back_of says text)) (handed_on adds (back_of says t))) (sym (append-nil text)) (none_more (handed_on adds (back_of says text)))
held_prefix says adds text (b ∷ bytes) =
    subst (λ t. IsPrefix (handed_on adds (back_of says text)) (handed_on adds (back_of says t))) (append_assoc text (b ∷ []) bytes)
    (follows _ (handed_on adds (back_of says (text ++ b ∷ []))) _ (byte_prefix says adds text b) (held_prefix says adds (text ++ b ∷ []) bytes))

nil_or_not : (xs : List ℕ) → (xs ≡ []) ⊎ (xs ≡ [] → ⊥)
nil_or_not [] = inl refl
nil_or_not (x ∷ xs) = inr (λ e. cc)

-- what the whole lines add comes first among what all lines add
pub text_prefix : {A B : Type 0} (says : List ℕ → A) (adds : A → List A → List B) (text : List ℕ) → IsPrefix (handed_on adds (back_of says text)) (handed_on adds (end_of says text))
text_prefix says adds text =
    elim (nil_or_not (cut text).rest) [
      | inl e ↦ ([], ap (handed_on adds) (end-none says text e) ∙ sym (append-nil (handed_on adds (back_of says text))))
      | inr ne ↦ (adds (says (cut text).rest) (back_of says text), ap (handed_on adds) (end-some says text ne))
    ]

-- and of each text that begins so
pub file_prefix : {A B : Type 0} (says : List ℕ → A) (adds : A → List A → List B) (text bytes : List ℕ) → IsPrefix (handed_on adds (back_of says text)) (handed_on adds (end_of says (text ++ bytes)))
file_prefix says adds text bytes = follows _ (handed_on adds (back_of says (text ++ bytes))) _ (held_prefix says adds text bytes) (text_prefix says adds (text ++ bytes))

-- where nothing was added
pub nothing_more : {A B : Type 0} (says : List ℕ → A) (adds : A → List A → List B) (text bytes : List ℕ) → IsPrefix (handed_on adds (back_of says text) ++ []) (handed_on adds (end_of says (text ++ bytes)))
nothing_more says adds text bytes = subst (λ xs. IsPrefix xs (handed_on adds (end_of says (text ++ bytes)))) (sym (append-nil (handed_on adds (back_of says text)))) (file_prefix says adds text bytes)

-- what a part of a text added
pub first_of : {A B : Type 0} (says : List ℕ → A) (adds : A → List A → List B) (part bytes text : List ℕ) (told : List B) → part ++ bytes ≡ text → handed_on adds (back_of says part) ≡ told → IsPrefix told (handed_on adds (end_of says text))
first_of says adds part bytes text told all same = subst (λ t. IsPrefix told (handed_on adds (end_of says t))) all (subst (λ xs. IsPrefix xs (handed_on adds (end_of says (part ++ bytes)))) same (file_prefix says adds part bytes))
