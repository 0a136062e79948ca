-- What the file of a new store holds.
use Rattle.std.specs.Prelude.{ℕ, Bool, not, ◌&&◌, List, [], zip, nat_eq}
use Rattle.std.specs.List.{list_any}
use Rattle.plain_tables.specs.Tables.{new_tables}
use Rattle.store_paths.specs.Shown.{HoldsRows}

-- a database file of these bytes, with no log beside it, has the tables of a new store; the kit promises no more than that some are there (`∥ ∥₁`)
abbrev pub IsNewStore : List ℕ → Type 0
IsNewStore bytes = ∥ HoldsRows (record { log = []; db = bytes }) new_tables ∥₁

-- some byte is neither zero nor the one in its place among others, as far as these go
abbrev pub is_other : List ℕ → List ℕ → Bool
is_other found bytes = list_any (λ p. not (nat_eq p.0 0) && not (nat_eq p.0 p.1)) (zip found bytes)
