use Rattle.std.proofs.Common.{◌≡◌, ◌+◌, [], fold, map}
use Rattle.std.specs.List.{AllByRecursion}
use Rattle.cost_rows.specs.KeySums.{total_of, with_row}
use Rattle.run_stores.specs.Book.{IsHeld}
use Rattle.run_stores.specs.Names.{named_cell}
use Rattle.selected_runs.specs.Sums.{number_rows, numbers_told, numbers_total}
use Rattle.selected_runs.proofs.naming.add_named.Given as goal

-- the sums so far and the rows to come are all, and the numbers are held if those to come are
abbrev pub invariant-loop-part : goal.invariant-loop-part
invariant-loop-part g l =
    (l.merged.key ≡ l.key) ×
    (total_of l.merged.sums + numbers_total l.part-iterator ≡ numbers_total l.sums) ×
    (fold with_row l.merged (map (named_cell (g.N.NameTable.name_rows l.names)) (number_rows l.part-iterator))
    ≡ fold with_row (record { key = l.key; sums = [] }) (map (named_cell (g.N.NameTable.name_rows l.names)) (number_rows l.sums))) ×
    (AllByRecursion (IsHeld (g.N.NameTable.name_rows l.names)) (numbers_told l.key l.part-iterator)
    → AllByRecursion (IsHeld (g.N.NameTable.name_rows l.names)) (numbers_told l.key l.sums))
