-- A walk over some rows of a table, in the order of their rowids, one window of rowids at a time.
use Rattle.std.specs.Prelude.{ℕ, pos, ◌&&◌, Bool, true, List, ◌∷◌, map}
use Rattle.sqlite_value.specs.declared.keys.Collation.TheVariants.{Binary}
use Rattle.sqlite_value.specs.declared.value.Value.TheVariants.{Int}
use Rattle.sqlite_value.specs.Order.{Row, column}
use Rattle.sqlite_sql.specs.declared.ops.BinaryOp.TheVariants.{Compare}
use Rattle.sqlite_sql.specs.declared.ops.CompareOp.TheVariants.{Eq, Gt, Le}
use Rattle.sqlite_sql.specs.Ops.{binary, is_true}

-- ---- the tests of WHERE

abbrev pub has_number : ℕ → ℕ → Row → Bool
has_number at number r = is_true (binary (Compare Eq Binary) (column r at) (Int (pos number)))

abbrev pub is_above : ℕ → Row → Bool
is_above low r = is_true (binary (Compare Gt Binary) (column r 0) (Int (pos low)))

abbrev pub is_within : ℕ → Row → Bool
is_within high r = is_true (binary (Compare Le Binary) (column r 0) (Int (pos high)))

-- ---- what a walk gives

-- the rows with a number at a place, and of each that number and its columns at other places
pub record Asked : Type 0 where
  pub at : ℕ
  pub number : ℕ
  pub places : List ℕ

abbrev pub is_asked : Asked → Row → Bool
is_asked a = has_number a.at a.number

-- what a row of the table says
abbrev pub said : Asked → Row → Row
said a r = Int (pos a.number) ∷ map (column r) a.places

abbrev pub is_left : Asked → ℕ → Row → Bool
is_left a low r = is_asked a r && is_above low r
