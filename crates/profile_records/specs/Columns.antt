-- Costs by column; a column that is absent counts 0.
use Rattle.std.specs.Prelude.{ℕ, ◌+◌, ◌<◌, ◌^◌, All, List, [], ◌∷◌}

-- two rows of costs, added column by column
abbrev pub added : List ℕ → List ℕ → List ℕ
added [] more = more
added (sum ∷ sums) [] = sum ∷ sums
added (sum ∷ sums) (cost ∷ more) = (sum + cost) ∷ added sums more

-- costs as a record may have them
abbrev pub AreLow : List ℕ → Type 0
AreLow costs = All (λ c. c < 2 ^ 63) costs

-- no sum is so great that one more cost could make it wrap
abbrev pub HaveRoom : List ℕ → Type 0
HaveRoom sums = All (λ s. s < 2 ^ 127) sums
