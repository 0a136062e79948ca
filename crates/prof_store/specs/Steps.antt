-- What a part of a transaction does to what a connection shows, and where the numbers of runs lie.
use Rattle.std.specs.Prelude.{ℕ, ◌<◌}
use Rattle.std.specs.List.{AllByRecursion}
use Rattle.plain_tables.specs.Tables.{Tables, RunRow}

-- each run's number is below a number
abbrev pub IsAbove : ℕ → Tables → Type 0
IsAbove n t = AllByRecursion (λ (r : RunRow). r.number < n) t.runs
