-- What a file writes into the tables.
use Rattle.std.specs.Prelude.{ℕ, bytes_eq, if◌then◌else◌, List, [], ◌∷◌, map, fold}
use Rattle.plain_tables.specs.Tables.{Tables, NameRow}
use Rattle.plain_tables.specs.Changes.{named}

-- the number of a name, 0 where it has none
abbrev pub number_in : List NameRow → List ℕ → ℕ
number_in [] name = 0
number_in (line ∷ lines) name = if bytes_eq line.name name then line.number else number_in lines name

-- names are held from now on
abbrev pub all_named : List (List ℕ) → Tables → Tables
all_named names t = fold (λ known name. named name known) t names

-- the numbers of names
abbrev pub numbers_in : Tables → List (List ℕ) → List ℕ
numbers_in t names = map (number_in t.names) names
