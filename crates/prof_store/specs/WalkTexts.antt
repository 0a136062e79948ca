-- The texts that read the lines of a run, a window of rowids at a time, from `cell`, `call` and `stack`.
use Rattle.std.specs.Prelude.{ℕ, [], ◌∷◌}
use Rattle.sql_tables.specs.Walks.{Asked}

-- ---- the rows of a run, and their columns behind its number

abbrev pub cells_of : ℕ → Asked
cells_of run = record { at = 1; number = run; places = 2 ∷ 3 ∷ 4 ∷ 5 ∷ 6 ∷ 7 ∷ 8 ∷ [] }

abbrev pub calls_of : ℕ → Asked
calls_of run = record { at = 1; number = run; places = 2 ∷ 3 ∷ 4 ∷ 5 ∷ 6 ∷ 7 ∷ 8 ∷ 9 ∷ 10 ∷ [] }

abbrev pub stacks_of : ℕ → Asked
stacks_of run = record { at = 1; number = run; places = 2 ∷ 3 ∷ [] }
