-- Rows that a test takes.
use Rattle.std.specs.Prelude.{ℤ, Bool, not, List, filter, map}
use Rattle.sqlite_rules.specs.Edit.{id_in}
use Rattle.sqlite_trees.specs.Tree.{rowid}
use Rattle.sqlite_value.specs.Order.{Row}

-- the rowids of rows
abbrev pub rowids_of : List Row → List ℤ
rowids_of = map (λ row. id_in (rowid row))

-- the rows that are left
abbrev pub rows_left : (Row → Bool) → List Row → List Row
rows_left takes = filter (λ row. not (takes row))
