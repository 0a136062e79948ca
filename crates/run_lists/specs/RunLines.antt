-- The lines of one run.
use Rattle.std.specs.Prelude.{ℕ, ◌==◌, List, filter}

-- those of this run, in the order of their table
abbrev pub lines_of_run : {L : Type 0} → (L → ℕ) → ℕ → List L → List L
lines_of_run run_of run lines = filter (λ l. run_of l == run) lines
