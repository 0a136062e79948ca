-- The line that stands behind what is handed on of it.
use Rattle.std.specs.Prelude.{◌≡◌, ℕ, ◌<◌, List, ◌∷◌, length}
use Rattle.text_pieces.specs.declared.takes.Line.{Line}
use Rattle.text_pieces.specs.declared.takes.Line.TheVariants.{Complete, TooLong}

-- its bytes, or that they are too many
abbrev pub IsLine : Line → List ℕ → Type 0
IsLine (Complete bytes) line = bytes.now ≡ line
IsLine TooLong line = 1048576 < length line

-- it represents what the line says besides, the nearest first
abbrev pub Took : {T R : Type 0} → (List ℕ → R) → (T → List R → Type 0) → Line → T → T → Type 0
Took reading_of represents line old new = (text : List ℕ) (back : List _) → IsLine line text → represents old back → represents new (reading_of text ∷ back)
