-- What a file shows of which the bytes may be held in memory.
use Rattle.std.specs.Prelude.{ℕ, Bool, false, List, Option, Some, None}
use Rattle.std.specs.declared.vec.Vec.{Vec}

-- the bytes that are held, or else those of the file below
abbrev pub contents_of : {A : Type 0} → List ℕ → Option (Vec ℕ A) → List ℕ
contents_of below None = below
contents_of below (Some held) = held.items

-- where the file below is damaged; bytes that are held are not
abbrev pub damage_of : {A : Type 0} → (ℕ → ℕ → Bool) → Option (Vec ℕ A) → ℕ → ℕ → Bool
damage_of below None = below
damage_of below (Some held) = λ at n. false
