use Rattle.std.proofs.Common.{◌≡◌, ◌∷◌, drop, map, pos}
use Rattle.sqlite_value.specs.declared.value.Value.TheVariants.{Int}
use Rattle.sqlite_value.specs.Order.{column, row_cmp}
use Rattle.line_fills.proofs.values.compare_keys.Given as goal

-- the columns so far are equal
abbrev pub invariant-loop-at : goal.invariant-loop-at
invariant-loop-at g l =
    row_cmp (map (column (Int (pos l.rowid) ∷ g.L.PageLine.columns l.line)) l.columns) (map (column (Int (pos l.other_rowid) ∷ g.L.PageLine.columns l.other)) l.columns)
    ≡ row_cmp (map (column (Int (pos l.rowid) ∷ g.L.PageLine.columns l.line)) (drop l.at-index l.columns)) (map (column (Int (pos l.other_rowid) ∷ g.L.PageLine.columns l.other)) (drop l.at-index l.columns))
