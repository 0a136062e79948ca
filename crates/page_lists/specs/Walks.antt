-- The rows of a run, in a table whose rows stand in the order of the runs.
use Rattle.std.specs.Prelude.{◌≡◌, ◌≤◌, ◌<◌, ℕ, ℤ, pos, negsuc, Bool, ◌==◌, List, [], ◌∷◌, ◌++◌, map, filter, drop, Option, MatchOption}
use Rattle.std.specs.List.{AllByRecursion}
use Rattle.plain_tables.specs.Lists.{IsAscending}
use Rattle.sqlite_trees.specs.Tree.{rowid}
use Rattle.sqlite_value.specs.declared.value.Value.{Value}
use Rattle.sqlite_value.specs.declared.value.Value.TheVariants.{Null, Int, Real, Text, Blob}
use Rattle.sqlite_value.specs.Order.{Row, column}
use Rattle.page_rows.specs.Rows.{from_rowid}

abbrev pub natural : Value → ℕ
natural Null = 0
natural (Int (pos n)) = n
natural (Int (negsuc n)) = 0
natural (Real x) = 0
natural (Text t) = 0
natural (Blob b) = 0

-- the run of a row, which its first column behind the rowid has
abbrev pub run_in : Row → ℕ
run_in row = natural (column row 1)

abbrev pub is_of : ℕ → Row → Bool
is_of run row = run_in row == run

-- no row stands before one of an earlier run
abbrev pub InOrder : List Row → Type 0
InOrder rows = IsAscending (λ a b. run_in a ≤ run_in b) rows

-- the rows before those from a rowid on are of earlier runs
abbrev pub AllEarlier : ℕ → ℤ → List Row → Type 0
AllEarlier run from rows = (front : List Row) × (rows ≡ front ++ from_rowid from rows) × AllByRecursion (λ row. run_in row < run) front

-- the lines are those of the run among these rows
abbrev pub AreOfRun : {L : Type 0} → (L → Row) → ℕ → List Row → List L → Type 0
AreOfRun columns run rows lines = map columns lines ≡ map (drop 1) (filter (is_of run) rows)

-- the first of these rows, its rowid and its run; or there is none
abbrev pub IsFirstOf : List Row → Option (ℤ × ℕ) → Type 0
IsFirstOf rows found = MatchOption found (rows ≡ []) (λ place. (row : Row) × (rest : List Row) × (rows ≡ row ∷ rest) × (rowid row ≡ Int place.0) × (run_in row ≡ place.1))
