-- The cells of runs that are kept in memory, and those of a run that are gathered to be kept.
use Rattle.std.specs.Prelude.{◌≡◌, ℕ, List, map, IsTrue, IfSome}
use Rattle.std.specs.BTreeMap.{get}
use Rattle.std.specs.Ordering.{nat_cmp}
use Rattle.plain_tables.specs.RunRows.{cells_in}
use Rattle.plain_tables.specs.Tables.{Tables, StoredCell}
use Rattle.run_stores.specs.Walks.{cell_numbers}
use Rattle.page_runs.specs.declared.kept.Gathered.{Gathered}
use Rattle.page_runs.specs.declared.kept.KeptCells.{KeptCells}

-- where they are whole, they are those of these lines
abbrev pub HasGathered : List StoredCell → Gathered → Type 0
HasGathered lines g = IsTrue g.is_whole → g.cells.items ≡ map cell_numbers lines

-- where cells of a run are kept, they are those of the tables
abbrev pub AreKept : Tables → KeptCells → Type 0
AreKept t kept = (run : ℕ) → IfSome (get nat_cmp kept.runs run) (λ cells. cells.items ≡ map cell_numbers (cells_in run t))

-- nothing is kept: it is of any tables
abbrev pub IsForgotten : KeptCells → Type 0
IsForgotten kept = (t : Tables) → AreKept t kept
