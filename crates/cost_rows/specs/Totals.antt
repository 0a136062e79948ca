-- The sums over all entries, by column.
use Rattle.std.specs.Prelude.{◌≡◌, ℕ, ◌*◌, ◌<◌, ◌≤◌, ◌^◌, true, List, length, slice_index}
use Rattle.cost_rows.specs.Merging.{sum_where}
use Rattle.cost_rows.specs.Content.{Content}
use Rattle.cost_rows.specs.declared.places.CellPlace.{CellPlace}
use Rattle.cost_rows.specs.declared.places.Call.{Call}
use Rattle.cost_rows.specs.Calls.{Calls}
use Rattle.cost_rows.specs.declared.rows.FileTotals.{FileTotals}

-- the sum of column k over all entries
abbrev pub column_total : {K X : Type 0} → (X → List ℕ) → ℕ → List (K × X) → ℕ
column_total columns k entries = sum_where (λ _. true) (λ sums. slice_index (columns sums) k) entries

-- so many columns, and of each its sum
pub record AreColumns (events : ℕ) (sum : ℕ → ℕ) (totals : List ℕ) : Type 0 where
  pub many : length totals ≡ events
  pub sums : (k : ℕ) → k < events → slice_index totals k ≡ sum k

-- the sum of column k over all cells
abbrev pub cell_total : ℕ → List (CellPlace × List ℕ) → ℕ
cell_total k cells = column_total (λ costs. costs) k cells

-- the sum of column k over all calls
abbrev pub call_total : ℕ → List (Call × Calls) → ℕ
call_total k edges = column_total (λ calls. calls.costs) k edges

-- how many calls there were
abbrev pub count_total : List (Call × Calls) → ℕ
count_total edges = sum_where (λ _. true) (λ calls. calls.count) edges

-- the sum of all stacks' counts
abbrev pub stack_total : List (List ℕ × ℕ) → ℕ
stack_total stacks = sum_where (λ _. true) (λ count. count) stacks

-- the sums by column, of so many columns
pub record AreTotals (t : FileTotals) (c : Content) (events : ℕ) : Type 0 where
  pub self_columns : length t.self_cost ≡ events
  pub self_cost : (k : ℕ) → k < events → slice_index t.self_cost k ≡ cell_total k c.cells
  pub call_columns : length t.call_cost ≡ events
  pub call_cost : (k : ℕ) → k < events → slice_index t.call_cost k ≡ call_total k c.calls
  pub call_count : t.call_count ≡ count_total c.calls

-- each line so far added less than 2^63 to each sum
pub record AreWithin (cells : List (CellPlace × List ℕ)) (edges : List (Call × Calls)) (stacks : List (List ℕ × ℕ)) (lines : ℕ) : Type 0 where
  pub cells_fit : (k : ℕ) → cell_total k cells ≤ lines * 2 ^ 63
  pub calls_fit : (k : ℕ) → call_total k edges ≤ lines * 2 ^ 63
  pub counts_fit : count_total edges ≤ lines * 2 ^ 63
  pub stacks_fit : stack_total stacks ≤ lines * 2 ^ 63
