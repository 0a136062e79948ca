-- Why lines may not be put in.
use Rattle.std.specs.Prelude.{◌≡◌, ◌⊎◌, ◌+◌, ◌<◌, ◌≤◌, ◌^◌, ◌≤ℤ◌, pos, ℕ, ℤ, List, All, length, map}
use Rattle.std.specs.Float.{NotNan}
use Rattle.std.specs.List.{AllByRecursion}
use Rattle.plain_tables.specs.declared.errors.StoreError.{StoreError}
use Rattle.plain_tables.specs.declared.errors.StoreError.TheVariants.{Memory, Store}
use Rattle.sqlite_rules.specs.Edit.{next_rowid}
use Rattle.sqlite_schema.specs.declared.schema.Index.{Index}
use Rattle.sqlite_sql.specs.Catalog.{entry_of}
use Rattle.sqlite_trees.specs.View.{IsStorable}
use Rattle.sqlite_value.specs.declared.value.Value.{Value}
use Rattle.sqlite_value.specs.Order.{Row, bytes, number}
use Rattle.page_places.specs.Keys.{HeadsDiffer}
use Rattle.line_fills.specs.Rows.{numbered}

-- memory ran out, or what was given does not fit
abbrev pub IsRefused : Type 0 → StoreError → Type 0
IsRefused Fits e = (e ≡ Memory) ⊎ ((e ≡ Store) × ¬ Fits)

-- a value that a record takes: no NaN, and no text of more than a billion bytes
abbrev pub IsShort : Value → Type 0
IsShort value = NotNan (number value) × (length (bytes value) ≤ 10 ^ 9)

-- a row that is made a record: storable, and of few columns
abbrev pub HasRecord : Row → Type 0
HasRecord row = IsStorable 0 row × (length row ≤ 14)

-- each of them is
abbrev pub HaveRecords : List Row → Type 0
HaveRecords rows = All HasRecord rows

-- an index of these columns can take the entries of new rows: it is not over the rowid, and no two have one key
pub record CanEnter (columns : List ℕ) (news : List Row) : Type 0 where
  pub of_columns : AllByRecursion (λ at. 1 ≤ at) columns
  pub records : HaveRecords (map (entry_of columns) news)
  pub apart : HeadsDiffer (length columns) (map (entry_of columns) news)

-- from this number on there are so many rowids
pub record HasRoomFrom (free : ℤ) (count : ℕ) : Type 0 where
  pub first : ℕ
  pub some : 1 ≤ first
  pub behind : free ≤ℤ pos first
  pub room : first + count < 2 ^ 63

-- and behind these rows
abbrev pub HasRoom : List Row → ℕ → Type 0
HasRoom rows count = HasRoomFrom (next_rowid rows) count

-- lines can be put behind the rows of a table that has these indexes, whatever rowids they get
pub record CanBeFilledIn (lines rows : List Row) (indexes : List Index) : Type 0 where
  pub room : HasRoom rows (length lines)
  pub records : HaveRecords lines
  pub entered : (first : ℕ) → first + length lines < 2 ^ 63 → AllByRecursion (λ (i : Index). CanEnter i.columns (numbered first lines)) indexes
