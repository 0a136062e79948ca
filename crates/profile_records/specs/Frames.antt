-- The frames of a stack.
use Rattle.std.specs.Prelude.{ℕ, ◌-◌, Bool, not, List, [], ◌∷◌, length, drop, map, ◌==◌}
use Rattle.std.specs.List.{slice_split, suffix_len}
use Rattle.cg_text.specs.Names.{unknown}

-- `;`
abbrev pub is_semicolon : ℕ → Bool
is_semicolon b = b == 59

-- a frame is the function of its name; one without a name is `???`
abbrev pub function_of : List ℕ → List ℕ
function_of [] = unknown
function_of (b ∷ name) = b ∷ name

-- the functions of a stack, the root first
abbrev pub functions_of : List ℕ → List (List ℕ)
functions_of frames = map function_of (slice_split is_semicolon frames)

-- what stands behind the last `;`, all where there is none
abbrev pub behind_semicolon : List ℕ → List ℕ
behind_semicolon frames = drop (length frames - suffix_len (λ b. not (is_semicolon b)) frames) frames

-- the function that was running: that of the last frame
abbrev pub leaf_of : List ℕ → List ℕ
leaf_of frames = function_of (behind_semicolon frames)
