-- The rows of a run in three tables, in the order of their rows.
use Rattle.std.specs.Prelude.{ℕ, ◌==◌, List, filter}
use Rattle.plain_tables.specs.Tables.{Tables, StoredCell, StoredCall, StoredStack}

abbrev pub cells_in : ℕ → Tables → List StoredCell
cells_in run t = filter (λ (c : StoredCell). c.run == run) t.cells

abbrev pub calls_in : ℕ → Tables → List StoredCall
calls_in run t = filter (λ (a : StoredCall). a.run == run) t.calls

abbrev pub stacks_in : ℕ → Tables → List StoredStack
stacks_in run t = filter (λ (s : StoredStack). s.run == run) t.stacks
