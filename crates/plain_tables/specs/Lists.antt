-- Membership and order, by recursion.
use Rattle.std.specs.Prelude.{◌≡◌, ◌⊎◌, List, [], ◌∷◌, ⊤}
use Rattle.std.specs.List.{AllByRecursion}

abbrev pub Has : {X : Type 0} → List X → X → Type 0
Has [] x = ⊥
Has (y ∷ ys) x = (x ≡ y) ⊎ Has ys x

-- each is below all that follow it
abbrev pub IsAscending : {X : Type 0} → (X → X → Type 0) → List X → Type 0
IsAscending R [] = ⊤
IsAscending R (x ∷ xs) = AllByRecursion (R x) xs × IsAscending R xs
