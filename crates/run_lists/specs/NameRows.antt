-- The names that are held, beside the rows and the lines that they show.
use Rattle.std.specs.Prelude.{◌≡◌, ◌<◌, ℕ, List, get_or, length}
use Rattle.plain_tables.specs.Tables.{NameRow}
use Rattle.prof_store.specs.Tables.{number}
use Rattle.run_lists.specs.declared.held_names.HeldName.{HeldName}

-- the line that a name and its number are
abbrev pub name_row : HeldName → NameRow
name_row n = record { number = n.number; name = n.bytes.items }

-- the name at a place is this one, of this number
abbrev pub IsNameAt : List HeldName → ℕ → ℕ → List ℕ → Type 0
IsNameAt names at number name = (at < length names) × ((d : HeldName) → ((get_or names at d).number ≡ number) × (name ≡ (get_or names at d).bytes.items))
