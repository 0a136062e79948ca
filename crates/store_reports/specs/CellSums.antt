-- What the cells of a run cost, by the column of their event.
use Rattle.std.specs.Prelude.{◌≡◌, ◌<◌, ◌+◌, ◌==◌, ℕ, List, filter, length, slice_index, slice_set, sum_by}
use Rattle.plain_tables.specs.Tables.{StoredCell}

-- a sum grows by a cost
abbrev pub with_cost : List ℕ → ℕ → ℕ → List ℕ
with_cost sums column cost = slice_set sums column (slice_index sums column + cost)

-- the cells of a column cost this
abbrev pub column_cost : ℕ → List StoredCell → ℕ
column_cost column cells = sum_by (λ (c : StoredCell). c.cost) (filter (λ (c : StoredCell). c.event == column) cells)

-- the sums are those of the cells, column by column
abbrev pub AreOfCells : List StoredCell → List ℕ → Type 0
AreOfCells cells sums = (column : ℕ) → column < length sums → slice_index sums column ≡ column_cost column cells
