-- The lines of a text. A line ends at a line feed or at the end of the text.
use Rattle.std.specs.Prelude.{ℕ, ◌+◌, Bool, not, List, [], ◌∷◌, ◌++◌, if◌then◌else◌, ◌==◌}
use Rattle.std.specs.List.{onto_first, list_all}
use Rattle.cg_text.specs.Bytes.{line_feed}

abbrev pub is_line_feed : ℕ → Bool
is_line_feed b = b == line_feed

-- the lines, without their ends: a line feed ends a line, and any other byte goes onto the first line of the rest
abbrev pub lines_of : List ℕ → List (List ℕ)
lines_of [] = []
lines_of (b ∷ bs) = if is_line_feed b then [] ∷ lines_of bs else onto_first b (lines_of bs)

-- the lines with their numbers, from n on
abbrev pub numbered : ℕ → List (List ℕ) → List (ℕ × List ℕ)
numbered n [] = []
numbered n (l ∷ ls) = (n, l) ∷ numbered (n + 1) ls

-- the lines, each with a line feed behind it
abbrev pub joined : List (List ℕ) → List ℕ
joined [] = []
joined (l ∷ ls) = (l ++ line_feed ∷ []) ++ joined ls

-- whether a line feed stands nowhere in these bytes
abbrev pub is_one_line : List ℕ → Bool
is_one_line bs = list_all (λ b. not (is_line_feed b)) bs

-- the text whose last line has its line feed too
abbrev pub ended : List ℕ → List ℕ
ended [] = []
ended (b ∷ []) = if is_line_feed b then b ∷ [] else b ∷ line_feed ∷ []
ended (b ∷ c ∷ bs) = b ∷ ended (c ∷ bs)
