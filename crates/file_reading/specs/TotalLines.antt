-- The lines of a total, by event.
use Rattle.std.specs.Prelude.{ℕ, ◌+◌, List, [], ◌∷◌, ◌++◌, codes}
use Rattle.std.specs.Fmt.{decimal}
use Rattle.byte_io.specs.Escapes.{escaped}

-- the line of an event
abbrev pub total_line : List ℕ → ℕ → List ℕ
total_line event sum = escaped event ++ (codes " " ++ (decimal sum ++ codes "\n"))

-- the lines of events, where the first has the sum of column k
abbrev pub total_lines : (ℕ → ℕ) → ℕ → List (List ℕ) → List ℕ
total_lines sum_in k [] = []
total_lines sum_in k (event ∷ events) = total_line event (sum_in k) ++ total_lines sum_in (k + 1) events

-- the one line for what is not accepted
abbrev pub refused_line : List ℕ → List ℕ
refused_line reason = codes "refused: " ++ (reason ++ codes "\n")
