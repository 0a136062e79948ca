-- Names and their numbers.
use Rattle.std.specs.Prelude.{◌≡◌, ◌≤◌, ◌^◌, ℕ, ℤ, pos, negsuc, List, Option, Some, None, if◌then◌else◌}
use Rattle.std.specs.List.{AllZip}
use Rattle.sqlite_value.specs.declared.value.Value.TheVariants.{Int, Blob}
use Rattle.sqlite_value.specs.Order.{Row, column}
use Rattle.plain_tables.specs.Tables.{Tables, NameRow}
use Rattle.plain_tables.specs.Changes.{has_name}
use Rattle.plain_tables.specs.Files.{number_in}

-- the number of a name, if it is held
abbrev pub number_if_held : Tables → List ℕ → Option ℕ
number_if_held t name = if has_name t name then Some (number_in t.names name) else None

-- ---- rows of names, whoever wrote them

-- a rowid, read as a number; a negative one stands in no line, and is read as another
abbrev pub number_read : (ℕ → ℕ) → ℤ → ℕ
number_read far (pos n) = n
number_read far (negsuc n) = far n

-- a row, so read, has this name under this number
pub record SaysName (far : ℕ → ℕ) (row : Row) (line : NameRow) : Type 0 where
  pub id : ℤ
  pub has_id : column row 0 ≡ Int id
  pub number_is : number_read far id ≡ line.number
  pub has_bytes : column row 2 ≡ Blob line.name

-- rows say these names, where each negative number is read as one that no command has
pub record SayNames (rows : List Row) (names : List NameRow) : Type 0 where
  pub far : ℕ → ℕ
  pub is_far : (n : ℕ) → 2 ^ 64 ≤ far n
  pub said : AllZip (SaysName far) rows names
