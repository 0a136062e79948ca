-- Rows of a name and a number: groups with their baselines, and members.
use Rattle.std.specs.Prelude.{◌≡◌, ◌≢◌, ◌<◌, ◌^◌, ℕ, ℤ, ⊤, Bool, List, [], ◌∷◌, Option, None, Some, FitsSigned}
use Rattle.std.specs.Int.{w64}
use Rattle.std.specs.Ordering.{is_eq}
use Rattle.std.specs.List.{AllByRecursion}
use Rattle.sqlite_value.specs.declared.value.Value.TheVariants.{Int, Text}
use Rattle.sqlite_value.specs.Order.{Row, column, value_cmp}
use Rattle.sqlite_rules.specs.Lists.{Has}
use Rattle.plain_tables.specs.declared.errors.StoreError.{StoreError}
use Rattle.plain_tables.specs.declared.errors.StoreError.TheVariants.{Store}
use Rattle.prof_store.specs.Tables.{number_or_null}
use Rattle.page_changes.specs.declared.finding.NamedRow.{NamedRow}

abbrev pub named : ℤ → List ℕ → Option ℕ → Row
named id name n = Int id ∷ Text name ∷ number_or_null n ∷ []

-- the number is the one that is sought, if one is
abbrev pub IsSought : Option ℕ → Option ℕ → Type 0
IsSought None n = ⊤
IsSought (Some m) n = n ≡ Some m

-- the row has another name, or another number than the one that is sought
abbrev pub IsOther : List ℕ → Option ℕ → Row → Type 0
IsOther name sought row = (id : ℤ) (n : Option ℕ) → row ≡ named id name n → IsSought sought n → ⊥

-- each of these rows is another
abbrev pub AreOthers : List ℕ → Option ℕ → List Row → Type 0
AreOthers name sought rows = AllByRecursion (IsOther name sought) rows

-- the number has 32 bits, if there is one
abbrev pub IsNarrow : Option ℕ → Type 0
IsNarrow None = ⊤
IsNarrow (Some n) = n < 2 ^ 32

-- the row is of no name and number of 32 bits
abbrev pub IsOutOfForm : Row → Type 0
IsOutOfForm row = (id : ℤ) (name : List ℕ) (n : Option ℕ) → IsNarrow n → row ≢ named id name n

-- such a row is refused
abbrev pub IsRefused : Row → StoreError → Type 0
IsRefused row e = (e ≡ Store) × IsOutOfForm row

-- one of these rows is such: the program makes none, but the tables can hold them
abbrev pub HasOutOfForm : List Row → Type 0
HasOutOfForm rows = (row : Row) × Has rows row × IsOutOfForm row

-- there is a row of the name, and of the number that is sought, and none is out of form
pub record CanBeFound (name : List ℕ) (sought : Option ℕ) (rows : List Row) : Type 0 where
  pub there : AreOthers name sought rows → ⊥
  pub in_form : HasOutOfForm rows → ⊥

-- it is the row of the name, and of the number that is sought, among these
pub record IsRowFound (name : List ℕ) (sought : Option ℕ) (rows : List Row) (found : NamedRow) : Type 0 where
  pub there : Has rows (named found.rowid name found.number)
  pub is : IsSought sought found.number
  pub fits : FitsSigned w64 found.rowid

-- the row that was found, or there is none
abbrev pub IsFound : List ℕ → Option ℕ → List Row → Option NamedRow → Type 0
IsFound name sought rows None = AreOthers name sought rows
IsFound name sought rows (Some found) = IsRowFound name sought rows found

-- one of these rows was found
abbrev pub EndsFound : List ℕ → Option ℕ → List Row → Option NamedRow → Type 0
EndsFound name sought rows found = (row : NamedRow) × (found ≡ Some row) × IsRowFound name sought rows row

-- whether the first column of a row is this name
abbrev pub is_of_name : List ℕ → Row → Bool
is_of_name name row = is_eq (value_cmp (column row 1) (Text name))
