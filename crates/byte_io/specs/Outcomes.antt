-- What the reads of a source came to.
use Rattle.std.specs.Prelude.{ℕ, Bool, true, false, List, [], ◌∷◌, ◌++◌}

-- bytes, none where the source has ended, or a failure
pub data Outcome : Type 0 where
  Gave : List ℕ → Outcome
  Failed : Outcome

-- the bytes that reads gave
abbrev pub bytes_of : List Outcome → List ℕ
bytes_of [] = []
bytes_of (Gave bytes ∷ outcomes) = bytes ++ bytes_of outcomes
bytes_of (Failed ∷ outcomes) = bytes_of outcomes

abbrev pub is_failed : Outcome → Bool
is_failed Failed = true
is_failed (Gave bytes) = false

-- a read that gives no byte says that the source has ended
abbrev pub is_end : Outcome → Bool
is_end Failed = false
is_end (Gave []) = true
is_end (Gave (b ∷ bytes)) = false
