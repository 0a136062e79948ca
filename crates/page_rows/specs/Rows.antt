-- The rows of a table, as the pages of a file have them.
use Rattle.std.specs.Prelude.{ℕ, ℤ, List, [], ◌∷◌, if◌then◌else◌}
use Rattle.std.specs.Ordering.{is_lt}
use Rattle.sqlite_pages.specs.PageMap.{PageMap}
use Rattle.sqlite_btree.specs.Chain.{Layout}
use Rattle.sqlite_btree.specs.Stored.{IsTable, IsLaidIn}
use Rattle.sqlite_value.specs.declared.value.Value.TheVariants.{Int}
use Rattle.sqlite_value.specs.Order.{Row, value_cmp}
use Rattle.sqlite_trees.specs.Tree.{rowid}
use Rattle.sqlite_trees.specs.declared.store.Shape.TheVariants.{Table}
use Rattle.sqlite_store.specs.Db.{rows_at}

-- the pages hold a table under this root
abbrev pub HasTable : ℕ → PageMap → ℕ → Type 0
HasTable size pages root = (layout : Layout) × (raw : List (ℤ × List ℕ)) × IsLaidIn layout pages × IsTable size layout root raw

-- its rows by rising rowid, each a rowid and then its columns
abbrev pub rows_of : ℕ → PageMap → ℕ → List Row
rows_of size pages root = rows_at size pages Table root

-- the rows from the first that is not below a rowid
abbrev pub from_rowid : ℤ → List Row → List Row
from_rowid id [] = []
from_rowid id (row ∷ rows) = if is_lt (value_cmp (rowid row) (Int id)) then from_rowid id rows else row ∷ rows
