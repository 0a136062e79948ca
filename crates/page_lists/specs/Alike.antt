-- Tables that keep their rows and the keys of their indexes alike, and texts that make such tables.
use Rattle.std.specs.Prelude.{◌≡◌, ℕ, Bool, true, false, List, Ok}
use Rattle.std.specs.List.{AllZip}
use Rattle.sqlite_resolve.specs.Compile.{table_defined_by}
use Rattle.sqlite_schema.specs.Names.{same_name}
use Rattle.sqlite_schema.specs.declared.schema.Column.{Column}
use Rattle.sqlite_schema.specs.declared.schema.Kind.{Kind}
use Rattle.sqlite_schema.specs.declared.schema.Kind.TheVariants.{Integer, Real, Text, Blob, Any}
use Rattle.sqlite_schema.specs.declared.schema.Table.{Table}

-- whether whole numbers are kept as floats
abbrev pub is_real : Kind → Bool
is_real Integer = false
is_real Real = true
is_real Text = false
is_real Blob = false
is_real Any = false

-- the columns have one name, but for the case of ASCII letters, and one collation, and both are REAL or neither is
pub record IsSameColumn (a b : Column) : Type 0 where
  pub name : same_name a.name b.name ≡ true
  pub collation : a.collation ≡ b.collation
  pub real : is_real a.kind ≡ is_real b.kind

-- the tables have the same columns in one order, and the same keys, of which those of indexes are sorted alike
pub record AreAlike (a b : Table) : Type 0 where
  pub columns : AllZip IsSameColumn a.columns b.columns
  pub key : a.key ≡ b.key
  pub uniques : a.uniques ≡ b.uniques
  pub orders : a.orders ≡ b.orders

-- the text makes a table that is like this one
pub record MakesLike (table : Table) (text : List ℕ) : Type 0 where
  pub other : Table
  pub makes : table_defined_by text ≡ Ok other
  pub alike : AreAlike table other

-- each of the texts makes a table, and these are alike
pub record MakeAlike (one other : List ℕ) : Type 0 where
  pub table : Table
  pub makes : table_defined_by one ≡ Ok table
  pub alike : MakesLike table other
