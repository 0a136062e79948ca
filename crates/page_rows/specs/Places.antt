-- How far a walk has come in the rows of a table.
use Rattle.std.specs.Prelude.{◌≡◌, ℕ, ℤ, Bool, true, false, List, [], ◌∷◌, ◌++◌, map}
use Rattle.sqlite_pages.specs.PageMap.{PageMap}
use Rattle.sqlite_btree.specs.Chain.{Layout}
use Rattle.sqlite_btree.specs.Cut.{from_cut}
use Rattle.sqlite_btree.specs.Stored.{as_row, by_rowid}
use Rattle.sqlite_btree.specs.Batch.{left_in, taken, IsBatchOf}
use Rattle.sqlite_btree.specs.declared.batch.Batch.{Batch}

-- what the batch has left are the first rows from this rowid on
abbrev pub IsAt : Layout → ℕ → PageMap → List (ℤ × List ℕ) → ℤ → Batch → Type 0
IsAt layout size pages raw from batch =
    IsBatchOf layout size batch × ((rest : List (ℤ × List ℕ)) × (from_cut (by_rowid from) raw ≡ map as_row (left_in pages batch) ++ rest))

-- the first row from this rowid on was taken, and the batch has the next; or there is none
abbrev pub HasCome : Layout → ℕ → PageMap → List (ℤ × List ℕ) → ℤ → Batch → Bool → Type 0
HasCome layout size pages raw from batch true =
    IsBatchOf layout size batch × ((rest : List (ℤ × List ℕ)) × (from_cut (by_rowid from) raw ≡ as_row (taken batch) ∷ (map as_row (left_in pages batch) ++ rest)))
HasCome layout size pages raw from batch false = from_cut (by_rowid from) raw ≡ []
