-- DELETE from a table to which nothing refers.
use Rattle.std.proofs.Common.{◌∷◌, is_some, if◌then◌else◌}
use Rattle.sqlite_value.specs.declared.value.Value.{Value}
use Rattle.sqlite_value.specs.Order.{Row}
use Rattle.sqlite_sql.specs.Term.{col}
use Rattle.sqlite_schema.specs.declared.schema.Table.{Table}

-- the rows of a table as its entries have them
abbrev pub row_of : {X : Type 0} → Table → (X → Row) → Value → X → Row
row_of table columns id x = if is_some table.key then columns x else id ∷ columns x
