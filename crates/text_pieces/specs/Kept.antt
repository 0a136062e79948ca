-- What is kept of a text that comes in pieces.
use Rattle.std.specs.Prelude.{◌≡◌, ℕ, ◌-◌, ◌<◌, true, List, length, MatchBool}
use Rattle.text_pieces.specs.Cut.{cut}
use Rattle.text_pieces.specs.declared.pieces.Pieces.{Pieces}

-- the bytes after the last line feed are kept, of which there is no need where they are too many for a line
abbrev pub Keeps : Pieces → List ℕ → Type 0
Keeps p text = MatchBool p.too_long (1048576 < length (cut text).rest) (p.partial.items ≡ (cut text).rest)

-- how many bytes were taken
abbrev pub taken_of : Pieces → ℕ
taken_of p = p.taken

-- how many bytes are still taken
abbrev pub room_of : Pieces → ℕ
room_of p = 1073741824 - p.taken

-- memory ran out
abbrev pub IsSpent : Pieces → Type 0
IsSpent p = p.spent ≡ true
