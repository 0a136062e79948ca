-- The last row of a table.
use Rattle.std.specs.Prelude.{◌≡◌, ℤ, List, [], ◌∷◌, ◌++◌, Option, None, Some}
use Rattle.sqlite_trees.specs.Tree.{rowid}
use Rattle.sqlite_value.specs.declared.value.Value.TheVariants.{Int}
use Rattle.sqlite_value.specs.Order.{Row}

-- the rowid of the last of the rows, or none where there is no row
abbrev pub IsLastRowid : List Row → Option ℤ → Type 0
IsLastRowid rows None = rows ≡ []
IsLastRowid rows (Some id) = (front : List Row) × (row : Row) × (rows ≡ front ++ row ∷ []) × (rowid row ≡ Int id)
