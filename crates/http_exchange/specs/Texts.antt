-- Texts cut at a byte.
use Rattle.std.specs.Prelude.{ℕ, ◌==◌, Bool, true, false, cond, List, [], ◌∷◌, Option, Some, None}
use Rattle.std.specs.Option.{option_map}
use Rattle.std.specs.Borrow.{Bor}

-- what stands before the first such byte
abbrev pub front_of : ℕ → List ℕ → List ℕ
front_of mark [] = []
front_of mark (b ∷ text) = cond (b == mark) [] (b ∷ front_of mark text)

-- what follows the first such byte, if there is one
abbrev pub rest_of : ℕ → List ℕ → Option (List ℕ)
rest_of mark [] = None
rest_of mark (b ∷ text) = cond (b == mark) (Some text) (rest_of mark text)

-- the parts of a text between such bytes: one more than there are of them
abbrev pub cut_on : Bool → ℕ → List (List ℕ) → List (List ℕ)
cut_on true b parts = [] ∷ parts
cut_on false b [] = (b ∷ []) ∷ []
cut_on false b (part ∷ parts) = (b ∷ part) ∷ parts

abbrev pub parts_of : ℕ → List ℕ → List (List ℕ)
parts_of mark [] = [] ∷ []
parts_of mark (b ∷ text) = cut_on (b == mark) b (parts_of mark text)

-- a borrowed text, if there is one
abbrev pub shown : Option (Bor (List ℕ)) → Option (List ℕ)
shown borrowed = option_map (λ (text : Bor (List ℕ)). text.now) borrowed

-- the parts of what follows a mark: none where nothing follows
abbrev pub parts_after : ℕ → Option (List ℕ) → List (List ℕ)
parts_after mark None = []
parts_after mark (Some text) = parts_of mark text
