-- An index is filled with the entries of new rows.
use Rattle.std.specs.Prelude.{ℕ, List, ◌++◌, IsPermutation}
use Rattle.sqlite_value.specs.Order.{Row}
use Rattle.sqlite_sql.specs.Catalog.{IsIndexOf}
use Rattle.page_places.specs.Keys.{HeadsDiffer}

-- an index over these places has an entry for each new row beside its own, and no two of them have the same first columns
pub record Fills (places : List ℕ) (count : ℕ) (news old new : List Row) : Type 0 where
  pub entries : List Row
  pub are_of : IsIndexOf places news entries
  pub differ : HeadsDiffer count entries
  pub placed : IsPermutation (old ++ entries) new
