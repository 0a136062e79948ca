-- Walking rows.
use Rattle.std.proofs.Common.{ℕ, ◌+◌, suc, List, [], ◌∷◌, length}
use Rattle.cost_rows.specs.declared.places.CellPlace.{CellPlace}

-- how often a walk over cells moves on
abbrev pub steps : List (CellPlace × List ℕ) → ℕ
steps [] = 0
steps (e ∷ cells) = suc (length e.1) + steps cells
