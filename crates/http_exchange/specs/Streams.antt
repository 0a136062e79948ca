-- What the writes to a connection came to.
use Rattle.std.specs.Prelude.{◌≡◌, ℕ, ◌<◌, Bool, true, false, List, [], ◌∷◌, ◌++◌, length}
use Rattle.std.specs.List.{list_any}

-- the bytes that a write took, or a failure
pub data Written : Type 0 where
  Took : List ℕ → Written
  Broke : Written

-- the bytes that writes took
abbrev pub bytes_written : List Written → List ℕ
bytes_written [] = []
bytes_written (Took bytes ∷ writes) = bytes ++ bytes_written writes
bytes_written (Broke ∷ writes) = bytes_written writes

-- a write that failed, or took no byte
abbrev pub is_stopped : Written → Bool
is_stopped (Took []) = true
is_stopped (Took (b ∷ bytes)) = false
is_stopped Broke = true

-- these writes, one after another, lead from one state to another
abbrev pub Writes : {S : Type 0} → (S → Written → S → Type 0) → S → List Written → S → Type 0
Writes writes from [] to = from ≡ to
Writes writes from (one ∷ more) to = (between : _) × writes from one between × Writes writes between more to

-- each write took bytes
abbrev pub HaveTaken : List Written → Type 0
HaveTaken writes = list_any is_stopped writes ≡ false

-- the last write failed or took no byte, and each before it took bytes
pub record HasBroken (writes : List Written) : Type 0 where
  pub before : List Written
  pub last : Written
  pub are : writes ≡ before ++ last ∷ []
  pub taken : HaveTaken before
  pub stopped : is_stopped last ≡ true

-- these bytes are the front of a text
abbrev pub IsFront : List ℕ → List ℕ → Type 0
IsFront bytes text = (rest : List ℕ) × (text ≡ bytes ++ rest)

-- all of a text was written; or less, a front of it, up to a write that failed or took no byte
abbrev pub WentAs : Bool → List ℕ → List Written → Type 0
WentAs true text writes = (bytes_written writes ≡ text) × HaveTaken writes
WentAs false text writes = IsFront (bytes_written writes) text × HasBroken writes × (length (bytes_written writes) < length text)
