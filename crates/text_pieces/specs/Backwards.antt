-- What lines say and hand on, told looking back and from the first line on.
use Rattle.std.specs.Prelude.{◌≡◌, ℕ, List, [], ◌∷◌, ◌++◌, map}
use Rattle.cg_text.specs.Lines.{lines_of}
use Rattle.text_pieces.specs.Cut.{cut}

-- some things in front of others, the nearest first
abbrev pub onto : {A : Type 0} → List A → List A → List A
onto [] back = back
onto (x ∷ ahead) back = onto ahead (x ∷ back)

-- what the lines that end in a line feed say, the nearest first
abbrev pub back_of : {A : Type 0} → (List ℕ → A) → List ℕ → List A
back_of says text = onto (map says (cut text).lines) []

-- what all lines of a text say, the nearest to the end first
abbrev pub end_of : {A : Type 0} → (List ℕ → A) → List ℕ → List A
end_of says text = onto (map says (lines_of text)) []

-- what lines hand on, where each adds something to those before
abbrev pub handed_on : {A B : Type 0} → (A → List A → List B) → List A → List B
handed_on adds [] = []
handed_on adds (x ∷ back) = handed_on adds back ++ adds x back

-- some things come first among others
abbrev pub IsPrefix : {B : Type 0} → List B → List B → Type 0
IsPrefix {B} xs ys = (rest : List B) × (ys ≡ xs ++ rest)

-- ---- the same, from the first line on

-- what the lines that end in a line feed hand on
abbrev pub so_far : {A B : Type 0} → (List ℕ → A) → (List A → List B) → List ℕ → List B
so_far says tells text = tells (map says (cut text).lines)

-- what all lines of a text hand on
abbrev pub in_all : {A B : Type 0} → (List ℕ → A) → (List A → List B) → List ℕ → List B
in_all says tells text = tells (map says (lines_of text))

-- either way the same is told
abbrev pub Agrees : {A B : Type 0} → (List A → List B) → (A → List A → List B) → Type 0
Agrees tells adds = (lines : List _) → tells lines ≡ handed_on adds (onto lines [])
