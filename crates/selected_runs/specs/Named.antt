-- Sums by number with names in place of the numbers, and names that are some of all.
use Rattle.std.specs.Prelude.{◌≡◌, ℕ, List, [], fold, map}
use Rattle.cost_rows.specs.Keys.{part_of, place_of_row}
use Rattle.cost_rows.specs.KeySums.{Sums, with_row}
use Rattle.cost_rows.specs.Sums.{Spot}
use Rattle.cost_rows.specs.declared.keys.Key.{Key}
use Rattle.plain_tables.specs.Tables.{NameRow}
use Rattle.run_stores.specs.Book.{name_of, IsHeld}
use Rattle.run_stores.specs.Names.{named_cell}
use Rattle.selected_runs.specs.Sums.{number_row, number_rows}
use Rattle.selected_runs.specs.declared.parts.NumberPart.{NumberPart}

-- a sum at the part of its place that a key tells, by names
abbrev pub named_sum : List NameRow → Key → NumberPart × ℕ → Spot × ℕ
named_sum names key e = (part_of key (place_of_row (named_cell names (number_row e.0 e.1))), e.1)

-- such sums as rows with names, added up by the key
abbrev pub merged_by : List NameRow → Key → List (NumberPart × ℕ) → Sums
merged_by names key sums = fold with_row (record { key = key; sums = [] }) (map (named_cell names) (number_rows sums))

-- some of all names, each under its number
abbrev pub AreOf : List NameRow → List NameRow → Type 0
AreOf all some = (n : ℕ) → IsHeld some n → IsHeld all n × (name_of some n ≡ name_of all n)
