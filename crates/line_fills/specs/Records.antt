-- Records that lie in one buffer.
use Rattle.std.specs.Prelude.{◌≡◌, ◌<◌, ◌^◌, ℕ, List, [], ◌∷◌, All, drop, length, map, take}
use Rattle.sqlite_record.specs.Record.{decode}
use Rattle.sqlite_record.specs.Strict.{IsRecord}
use Rattle.sqlite_value.specs.Order.{Row}

-- the parts of these lengths, one behind another
abbrev pub cut : List ℕ → List ℕ → List (List ℕ)
cut bytes [] = []
cut bytes (n ∷ lengths) = take n bytes ∷ cut (drop n bytes) lengths

-- the bytes are a record that can be written into a page
pub record IsWritable (bytes : List ℕ) : Type 0 where
  pub short : length bytes < 2 ^ 31
  pub strict : IsRecord bytes

-- these records are those of these rows
pub record AreRecordsOf (rows : List Row) (records : List (List ℕ)) : Type 0 where
  pub rows_are : map decode records ≡ rows
  pub writable : All IsWritable records
