-- A line of the names.
use Rattle.std.specs.Prelude.{ℕ, List}
use Rattle.plain_tables.specs.Tables.{NameRow}

abbrev pub name_read : ℕ → List ℕ → NameRow
name_read number name = record { number = number; name = name }
