-- Reads of what may be known to be left.
use Rattle.std.specs.Prelude.{◌≡◌, ℕ, List, [], Option}
use Rattle.std.specs.Io.KnownBytes.{Consumes, Keeps, IsAtEnd}
use Rattle.byte_io.specs.Outcomes.{Outcome, Gave, Failed}

-- a read gave the first of the bytes that are left, and none only where none is left; or it failed, and left what was left
abbrev pub IsRead : Option (List ℕ) → Outcome → Option (List ℕ) → Type 0
IsRead before (Gave bytes) after = Consumes before after bytes × (bytes ≡ [] → IsAtEnd after)
IsRead before Failed after = Keeps before after
