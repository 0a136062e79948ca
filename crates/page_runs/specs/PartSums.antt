-- What the rows of a run sum to, part by part.
use Rattle.std.specs.Prelude.{◌≡◌, ◌+◌, ℕ, List, length, slice_index}
use Rattle.plain_tables.specs.Tables.{Tables}
use Rattle.run_lists.specs.RowSums.{sum_of_part}
use Rattle.page_runs.specs.declared.run_rows.RunTable.{RunTable}

-- lines sum to these, part by part, and those of a part behind them to nothing
abbrev pub SumTo : {L : Type 0} → (L → ℕ) → (L → ℕ) → List L → List ℕ → Type 0
SumTo part amount lines sums = (k : ℕ) → sum_of_part part amount k lines ≡ slice_index sums k

-- lines leave this of sums, part by part
abbrev pub LeaveOf : {L : Type 0} → (L → ℕ) → (L → ℕ) → List L → List ℕ → List ℕ → Type 0
LeaveOf part amount lines sums left = (k : ℕ) → sum_of_part part amount k lines + slice_index left k ≡ slice_index sums k

-- a run in the table under this root, whose rows have to sum to this, part by part
pub record IsRunTable (t : Tables) (root run : ℕ) (sum : ℕ → ℕ) (table : RunTable) : Type 0 where
  pub root_is : table.root ≡ root
  pub run_is : table.run ≡ run
  pub sums_are : (k : ℕ) → slice_index table.sums.items k ≡ sum k
  pub runs_are : table.runs ≡ length t.runs
