-- Costs without the zeros at their end: a column that is absent counts 0.
use Rattle.std.specs.Prelude.{ℕ, List, [], ◌∷◌, nat_eq, if◌then◌else◌}

-- a cost before others, unless it is 0 and there are none
abbrev pub before : ℕ → List ℕ → List ℕ
before cost [] = if nat_eq cost 0 then [] else cost ∷ []
before cost (next ∷ costs) = cost ∷ next ∷ costs

abbrev pub trimmed : List ℕ → List ℕ
trimmed [] = []
trimmed (cost ∷ costs) = before cost (trimmed costs)
