-- The entries of an index, as the pages of a file have them.
use Rattle.std.specs.Prelude.{ℕ, Bool, List, [], ◌∷◌, if◌then◌else◌}
use Rattle.std.specs.declared.cmp.Ordering.{Ordering}
use Rattle.std.specs.Ordering.{is_lt, is_eq}
use Rattle.sqlite_pages.specs.PageMap.{PageMap}
use Rattle.sqlite_btree.specs.Chain.{Layout}
use Rattle.sqlite_btree.specs.Stored.{IsIndex, IsLaidIn}
use Rattle.sqlite_record.specs.Record.{decode}
use Rattle.sqlite_value.specs.declared.keys.Order.{Order}
use Rattle.sqlite_value.specs.Order.{Row}
use Rattle.sqlite_value.specs.Keys.{entry_cmp, prefix_cmp}
use Rattle.sqlite_trees.specs.declared.store.Shape.TheVariants.{Index}
use Rattle.sqlite_store.specs.Sides.{up_to_or_above}
use Rattle.sqlite_store.specs.Db.{record_order, rows_at}

-- the pages hold an index of this order under this root
abbrev pub HasIndex : ℕ → PageMap → Order → ℕ → Type 0
HasIndex size pages order root = (layout : Layout) × (records : List (List ℕ)) × IsLaidIn layout pages × IsIndex (record_order order) size layout root records

-- its entries by their order
abbrev pub entries_of : ℕ → PageMap → Order → ℕ → List Row
entries_of size pages order root = rows_at size pages (Index order) root

-- the entries from the first that is not below this one; one of fewer columns is below each that it begins
abbrev pub from_entry : Order → Row → List Row → List Row
from_entry order from [] = []
from_entry order from (entry ∷ entries) = if is_lt (entry_cmp order entry from) then from_entry order from entries else entry ∷ entries

-- whether an entry begins with these columns, as the order compares them
abbrev pub begins_with : Order → Row → Row → Bool
begins_with order key entry = is_eq (prefix_cmp order entry key)

-- where an entry lies against the place of a row
abbrev pub at_row : Order → Row → List ℕ → Ordering
at_row order row bytes = entry_cmp order (decode bytes) row

-- and against the place behind the entry of a record: what equals it lies below
abbrev pub behind_record : Order → List ℕ → List ℕ → Ordering
behind_record order last bytes = up_to_or_above (entry_cmp order (decode bytes) (decode last))
