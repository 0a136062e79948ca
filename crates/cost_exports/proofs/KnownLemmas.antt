-- A file is known by the rows that were added exactly where it is by its records.
use Rattle.std.proofs.Common.{◌≡◌, ℕ, Bool, true, false, ◌||◌, bytes_eq, if◌then◌else◌, List, [], ◌∷◌, map, fold, refl, sym, ap, ap₂, ◌∙◌}
use Rattle.std.proofs.lemmas.Bool.{or_right}
use Rattle.std.proofs.Math.Bool.{or-false, or_assoc}
use Rattle.std.specs.List.{list_any}
use Rattle.std.specs.Ordering.{nat_cmp}
use Rattle.std.proofs.lemmas.List.Folds.{list_any-append}
use Rattle.cost_rows.specs.Sums.{Spot}
use Rattle.cost_rows.specs.declared.rows.CellRow.{CellRow}
use Rattle.cost_rows.proofs.KnownLemmas.{cells_know}
use Rattle.report_texts.specs.Costs.{EventCells, EventRecords, StandForEach, all_rows, weighted}
use Rattle.report_texts.specs.Amounts.{with_amount}
use Rattle.report_texts.specs.Annotations.{FileCosts, HaveCostsEach, know_file, no_lines, with_line}
use Rattle.cost_exports.proofs.LineLemmas.{file-step}

module _ (file : List ℕ) where
  abbrev in_file : Spot → Bool
  in_file p = bytes_eq p.file file

  abbrev is_row : CellRow (List ℕ) → Bool
  is_row r = bytes_eq r.file file

  -- ---- rows that were added

  known-step : (held : FileCosts) (row : CellRow (List ℕ)) (b : Bool)
      → (if b then record { file = held.file; known = true; costs = with_amount nat_cmp held.costs row.line row.cost } else held).known ≡ held.known || b
  known-step held row true = sym (or_right held.known true refl)
  known-step held row false = sym (or-false held.known)

  known-rows : (rows : List (CellRow (List ℕ))) (held : FileCosts) → held.file ≡ file → (fold with_line held rows).known ≡ held.known || list_any is_row rows
  known-rows [] held is = sym (or-false held.known)
  known-rows (row ∷ rows) held is =
      known-rows rows (with_line held row) (file-step held row ∙ is)
      ∙ ap (λ b. b || list_any is_row rows) (known-step held row (bytes_eq row.file held.file) ∙ ap (λ f. held.known || bytes_eq row.file f) is)
      ∙ or_assoc held.known (is_row row) (list_any is_row rows)

  -- ---- runs

  any_weighted : (coefs : List ℕ) (cells : List (CellRow (List ℕ))) → list_any is_row (map (weighted coefs) cells) ≡ list_any is_row cells
  any_weighted coefs [] = refl
  any_weighted coefs (r ∷ cells) = ap (λ b. is_row r || b) (any_weighted coefs cells)

  runs_know : (files : List EventRecords) (runs : List EventCells) → StandForEach files runs → HaveCostsEach runs → list_any is_row (all_rows runs) ≡ know_file file files
  runs_know [] [] stand above = refl
  runs_know [] (r ∷ runs) stand above = absurd stand
  runs_know (f ∷ files) [] stand above = absurd stand
  runs_know (f ∷ files) (r ∷ runs) stand above =
      list_any-append is_row (map (weighted r.coefs) r.cells) (all_rows runs)
      ∙ ap₂ (λ a b. a || b) (any_weighted r.coefs r.cells ∙ cells_know in_file r.cells f.records above.0 stand.0.cells) (runs_know files runs stand.1 above.1)

pub known-records : (file : List ℕ) (files : List EventRecords) (runs : List EventCells) → StandForEach files runs → HaveCostsEach runs → (fold with_line (no_lines file) (all_rows runs)).known ≡ know_file file files
known-records file files runs stand above = known-rows file (all_rows runs) (no_lines file) refl ∙ runs_know file files runs stand above
