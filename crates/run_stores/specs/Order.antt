-- The order in which the rows of runs stand in their tables.
use Rattle.std.specs.Prelude.{◌≤◌, ℕ, List}
use Rattle.plain_tables.specs.Lists.{IsAscending}
use Rattle.plain_tables.specs.Tables.{Tables, StoredCell, StoredCall, StoredStack}

-- no row stands before one of an earlier run
abbrev pub ByRun : {X : Type 0} → (X → ℕ) → List X → Type 0
ByRun run rows = IsAscending (λ a b. run a ≤ run b) rows

-- the rows of each run stand together, in the order of the runs, as imports write them
pub record AreInOrder (t : Tables) : Type 0 where
  pub cells : ByRun (λ (c : StoredCell). c.run) t.cells
  pub calls : ByRun (λ (a : StoredCall). a.run) t.calls
  pub stacks : ByRun (λ (s : StoredStack). s.run) t.stacks
