-- A table of identifiers, as a function from them.
use Rattle.std.specs.Prelude.{◌≡◌, ◌==◌, ℕ, ◌<◌, List, Option, Some, None, length, slice_get, unwrap_or, if◌then◌else◌}
use Rattle.callgrind_reader.specs.IdPlaces.{place_at}
use Rattle.callgrind_reader.specs.declared.tables.NameTable.{NameTable}

-- the name at a place, if there is one
abbrev pub name_among : List (List ℕ) → Option ℕ → Option (List ℕ)
name_among names None = None
name_among names (Some place) = slice_get names place

abbrev pub name_at : NameTable → Option ℕ → Option (List ℕ)
name_at t place = name_among t.names place

-- how many names a table has
abbrev pub names_in : NameTable → ℕ
names_in t = length t.names

-- what an identifier means
abbrev pub text_at : NameTable → ℕ → Option (List ℕ)
text_at t q = name_at t (place_at t.places q)

-- names that are held keep their places
abbrev pub Keeps : NameTable → NameTable → Type 0
Keeps old new = (place : ℕ) → place < names_in old → name_at new (Some place) ≡ name_at old (Some place)

-- an identifier means what it meant, or this name if it meant nothing; that stands at a place from now on
pub record Defines (id : ℕ) (text : List ℕ) (old new : NameTable) (place : ℕ) : Type 0 where
  pub means : (q : ℕ) → text_at new q ≡ (if id == q then Some (unwrap_or (text_at old id) text) else text_at old q)
  pub name : name_at new (Some place) ≡ Some (unwrap_or (text_at old id) text)
  pub inside : place < names_in new
  pub keeps : Keeps old new
