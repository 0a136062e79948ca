-- Cells of runs that are merged one after another.
use Rattle.std.proofs.Common.{◌≡◌, ℕ, ◌+◌, ◌*◌, ◌<◌, List, [], ◌∷◌, ◌++◌, map, fold, length, get_or, take, Result, Ok, Err, IfOk, refl, sym, ap, ap₂, ◌∙◌, arith}
use Rattle.std.specs.Prelude.{unwrap_or}
use Rattle.std.proofs.lemmas.Grind.{fold-append}
use Rattle.std.proofs.lemmas.List.{map-append}
use Rattle.std.proofs.lemmas.List.Sums.{fold_more}
use Rattle.cost_rows.specs.KeySums.{sums_by}
use Rattle.cost_rows.specs.declared.rows.CellRow.{CellRow}
use Rattle.cost_rows.specs.declared.keys.Key.{Key}
use Rattle.report_texts.specs.Costs.{all_rows, weighted}
use Rattle.run_stores.specs.Book.{cell_held}
use Rattle.plain_tables.specs.RunRows.{cells_in}
use Rattle.plain_tables.specs.Tables.{Tables, StoredCell, NameRow}
use Rattle.run_stores.specs.Names.{named_cell}
use Rattle.run_stores.specs.Walks.{cell_numbers}
use Rattle.selected_runs.specs.Sums.{SumsByNumber, number_rows, with_number}
use Rattle.selected_runs.proofs.NamedSums.{named_at_the_end, rows_keep_key}
use Rattle.store_reports.specs.Compared.{costs_over, named_sums}
use Rattle.selected_runs.specs.Counted.{event_cells}
use Rattle.store_reports.specs.Reported.{numbers_from, weighted_numbers}
use Rattle.selected_runs.specs.declared.counting.Counted.{Counted}

-- both clauses of an answer
pub both_so : {T E : Type 0} (r : Result T E) {P Q R : T → Type 0} → IfOk r P → IfOk r Q → ((x : T) → P x → Q x → R x) → IfOk r R
both_so (Ok x) p q so = so x p q
both_so (Err e) p q so = p

-- ---- the cells of one run, by number

abbrev pub taken : List ℕ × SumsByNumber → CellRow ℕ → List ℕ × SumsByNumber
taken m row = (m.0, with_number m.1 (weighted_numbers m.0 row))

pub cells_taken : (counts : List ℕ) (sums : SumsByNumber) (cells : List (CellRow ℕ)) → fold taken (counts, sums) cells ≡ (counts, fold with_number sums (map (weighted_numbers counts) cells))
cells_taken counts sums [] = refl
cells_taken counts sums (cell ∷ cells) = cells_taken counts (with_number sums (weighted_numbers counts cell)) cells

-- what counts nothing costs nothing
pub none_taken : (sums : SumsByNumber) (cells : List (CellRow ℕ)) → fold with_number sums (map (weighted_numbers []) cells) ≡ sums
none_taken sums [] = refl
none_taken sums (cell ∷ cells) =
    ap (λ cost. fold with_number (with_number sums (record cell { event = 0; cost = cost })) (map (weighted_numbers []) cells)) (none_of cell.cost) ∙ none_taken sums cells
  where
    none_of : (cost : ℕ) → 0 * cost ≡ 0
    none_of cost = omega arith

-- ---- runs one after another, by number

-- those so far, and one more
pub one_run_more : (t : Tables) (start sums more : SumsByNumber) (runs : List Counted) (at : ℕ) (run : Counted) → at < length runs → run ≡ get_or runs at run → sums ≡ fold (numbers_from t) start (take at runs) → more ≡ numbers_from t sums run
    → more ≡ fold (numbers_from t) start (take (at + 1) runs)
one_run_more t start sums more runs at run low is are one = one ∙ ap₂ (numbers_from t) are is ∙ sym (fold_more (numbers_from t) start runs at run low)

-- their cells as they count in the event
abbrev pub numbers_of : Tables → List Counted → List (CellRow ℕ)
numbers_of t [] = []
numbers_of t (run ∷ runs) = map (weighted_numbers (unwrap_or run.counts [])) (map cell_numbers (cells_in run.number t)) ++ numbers_of t runs

numbers_merged : (t : Tables) (start : SumsByNumber) (runs : List Counted) → fold (numbers_from t) start runs ≡ fold with_number start (numbers_of t runs)
numbers_merged t start [] = refl
numbers_merged t start (run ∷ runs) =
    numbers_merged t (numbers_from t start run) runs
    ∙ sym (fold-append with_number start (map (weighted_numbers (unwrap_or run.counts [])) (map cell_numbers (cells_in run.number t))) (numbers_of t runs))

cells_named : (names : List NameRow) (counts : List ℕ) (lines : List StoredCell)
    → map (named_cell names) (map (weighted_numbers counts) (map cell_numbers lines)) ≡ map (weighted counts) (map (cell_held names) lines)
cells_named names counts [] = refl
cells_named names counts (line ∷ lines) = ap (λ rows. weighted counts (cell_held names line) ∷ rows) (cells_named names counts lines)

-- with names in place they are those of the runs
pub runs_named : (t : Tables) (runs : List Counted) → map (named_cell t.names) (numbers_of t runs) ≡ all_rows (map (event_cells t) runs)
runs_named t [] = refl
runs_named t (run ∷ runs) =
    let counts = unwrap_or run.counts [] in
    map-append (named_cell t.names) (map (weighted_numbers counts) (map cell_numbers (cells_in run.number t))) (numbers_of t runs)
    ∙ ap₂ ◌++◌ (cells_named t.names counts (cells_in run.number t)) (runs_named t runs)

-- ---- their sums, with names in place

module _ (t : Tables) (key : Key) (runs : List Counted) (sums : SumsByNumber) (are : sums ≡ fold (numbers_from t) (record { key = key; sums = [] }) runs) where
  pub sums_are : sums ≡ fold with_number (record { key = key; sums = [] }) (numbers_of t runs)
  sums_are = are ∙ numbers_merged t (record { key = key; sums = [] }) runs

  pub key_is : sums.key ≡ key
  key_is = ap (λ (s : SumsByNumber). s.key) sums_are ∙ rows_keep_key (numbers_of t runs) (record { key = key; sums = [] })

  -- named at the end they are what the runs cost
  pub named_costs : named_sums t.names sums ≡ costs_over t key runs
  named_costs =
      ap₂ (λ k (s : SumsByNumber). sums_by k (map (named_cell t.names) (number_rows s.sums))) key_is sums_are
      ∙ named_at_the_end t.names key (numbers_of t runs)
      ∙ ap (sums_by key) (runs_named t runs)
