-- Rows whose rowids are among some numbers.
use Rattle.std.specs.Prelude.{◌≡◌, ◌≤◌, ◌<◌, ◌<ℤ◌, ◌≤ℤ◌, ℕ, ℤ, pos, Bool, List, ◌++◌, map, filter, length, slice_index}
use Rattle.std.specs.List.{AllByRecursion, list_any}
use Rattle.std.specs.Ordering.{int_eq}
use Rattle.sqlite_trees.specs.Tree.{IsAscending, rowid}
use Rattle.sqlite_value.specs.declared.value.Value.{Value}
use Rattle.sqlite_value.specs.declared.value.Value.TheVariants.{Null, Int, Real, Text, Blob}
use Rattle.sqlite_value.specs.Order.{Row}

abbrev pub integer : Value → ℤ
integer Null = pos 0
integer (Int z) = z
integer (Real x) = pos 0
integer (Text t) = pos 0
integer (Blob b) = pos 0

abbrev pub id_of : Row → ℤ
id_of row = integer (rowid row)

-- the rowid is one of these numbers
abbrev pub is_among : List ℕ → Row → Bool
is_among numbers row = list_any (λ n. int_eq (id_of row) (pos n)) numbers

-- each rowid is below those of later rows
abbrev pub Rise : List Row → Type 0
Rise rows = IsAscending (λ a b. id_of a <ℤ id_of b) rows

-- the first place from a place on whose number is not below a rowid, or their end
pub record IsPassedTo (numbers : List ℕ) (from : ℕ) (id : ℤ) (at : ℕ) : Type 0 where
  pub within : from ≤ length numbers → at ≤ length numbers
  pub passed : (k : ℕ) → from ≤ k → k < at → pos (slice_index numbers k) <ℤ id
  pub reached : at < length numbers → id ≤ℤ pos (slice_index numbers at)

-- of rows that came one after another those of the numbers were taken, behind others; and the numbers before a place lie below each later row
pub record HasTaken {L : Type 0} (columns : L → Row) (seen : Row → Row) (numbers : List ℕ) (before rows : List Row) (at : ℕ) (lines : List L) : Type 0 where
  pub within : at ≤ length numbers
  pub past : (id : ℤ) → AllByRecursion (λ row. id_of row <ℤ id) rows → (k : ℕ) → k < at → pos (slice_index numbers k) <ℤ id
  pub taken : map columns lines ≡ before ++ map seen (filter (is_among numbers) rows)
