-- Cells that are added up by the column of their event.
use Rattle.std.proofs.Common.{◌≡◌, ◌<◌, ◌+◌, ◌==◌, ℕ, false, List, [], ◌∷◌, map, fold, filter, length, slice_index, if◌then◌else◌, refl, sym, subst, ◌∙◌, inl, inr, arith}
use Rattle.std.proofs.lemmas.Bool.{cases_Bool}
use Rattle.std.proofs.lemmas.Bool.Decides.{nat_tests}
use Rattle.std.proofs.lemmas.Grind.{common_steps}
use Rattle.std.proofs.lemmas.List.Sums.{sum_by-cons}
use Rattle.cost_rows.specs.declared.rows.CellRow.{CellRow}
use Rattle.plain_tables.specs.Tables.{NameRow, StoredCell}
use Rattle.run_stores.specs.Book.{cell_held}
use Rattle.store_reports.specs.CellSums.{column_cost, with_cost}

abbrev pub with_cell : List ℕ → CellRow (List ℕ) → List ℕ
with_cell sums cell = with_cost sums cell.event cell.cost

stays_long : (sums : List ℕ) (column cost : ℕ) → length (with_cost sums column cost) ≡ length sums
stays_long sums column cost = grind (arith, common_steps)

grows : (sums : List ℕ) (column cost : ℕ) → column < length sums → slice_index (with_cost sums column cost) column ≡ slice_index sums column + cost
grows sums column cost low = grind (arith, common_steps, low)

stays : (sums : List ℕ) (column other cost : ℕ) → (other == column) ≡ false → slice_index (with_cost sums other cost) column ≡ slice_index sums column
stays sums column other cost apart = grind (arith, nat_tests, common_steps, apart)

column_step : (column : ℕ) (c : StoredCell) (cells : List StoredCell) → column_cost column (c ∷ cells) ≡ (if c.event == column then c.cost + column_cost column cells else column_cost column cells)
column_step column c cells = elim (cases_Bool (c.event == column)) [
  | inl same ↦ rw (same) (sum_by-cons (λ (x : StoredCell). x.cost) c (filter (λ (x : StoredCell). x.event == column) cells))
  | inr other ↦ rw (other) refl
]

next_sum : (sums : List ℕ) (column : ℕ) (c : StoredCell) (cells : List StoredCell) → column < length sums
    → slice_index (with_cost sums c.event c.cost) column + column_cost column cells ≡ slice_index sums column + column_cost column (c ∷ cells)
next_sum sums column c cells low = elim (cases_Bool (c.event == column)) [
  | inl same ↦
      (let step : column_cost column (c ∷ cells) ≡ c.cost + column_cost column cells = rw (column_step column c cells, same) refl in
      let is : c.event ≡ column = grind (arith, nat_tests, same) in
      let one : slice_index (with_cost sums c.event c.cost) column ≡ slice_index sums column + c.cost = rw is (grows sums column c.cost low) in
      omega (arith, step, one))
  | inr other ↦
      (let step : column_cost column (c ∷ cells) ≡ column_cost column cells = rw (column_step column c cells, other) refl in
      let one : slice_index (with_cost sums c.event c.cost) column ≡ slice_index sums column = stays sums column c.event c.cost other in
      omega (arith, step, one))
]

-- each sum grows by what the cells of its column cost
pub cells_summed : (names : List NameRow) (cells : List StoredCell) (sums : List ℕ) (column : ℕ) → column < length sums
    → slice_index (fold with_cell sums (map (cell_held names) cells)) column ≡ slice_index sums column + column_cost column cells
cells_summed names [] sums column low = omega arith
cells_summed names (c ∷ cells) sums column low =
    let rest = cells_summed names cells (with_cost sums c.event c.cost) column (subst (λ n. column < n) (sym (stays_long sums c.event c.cost)) low) in
    rest ∙ next_sum sums column c cells low
