-- Rows of the amounts that are above 0.
use Rattle.std.specs.Prelude.{ℕ, suc, List, [], ◌∷◌, nat_lt, if◌then◌else◌}

-- a row of each amount above 0, by its place, from a place on
abbrev pub rows_above : {R : Type 0} → (ℕ → ℕ → R) → ℕ → List ℕ → List R
rows_above row place [] = []
rows_above row place (n ∷ ns) = if nat_lt 0 n then row place n ∷ rows_above row (suc place) ns else rows_above row (suc place) ns
