-- Whether the sums of a file fit beside those that are held.
use Rattle.std.specs.Prelude.{ℕ, suc, ◌+◌, ◌-◌, ◌^◌, List, [], ◌∷◌, ◌++◌, nat_lt, if◌then◌else◌, Option, Some, None}
use Rattle.cost_rows.specs.declared.rows.FileTotals.{FileTotals}
use Rattle.cost_rows.specs.declared.limits.Side.{Side}
use Rattle.cost_rows.specs.declared.limits.Side.TheVariants.{SelfCost, CallCost, CallCount}
use Rattle.cost_rows.specs.declared.limits.Overflow.{Overflow}

-- no sum may be greater
abbrev pub bound : ℕ
bound = 2 ^ 63 - 1

-- a sum, and what it is the sum of
pub record Sum : Type 0 where
  pub of : Overflow
  pub sum : ℕ

-- the sums of two lists of columns, from column k on
abbrev pub column_sums : Side → ℕ → List ℕ → List ℕ → List Sum
column_sums side k (held ∷ more_held) (file ∷ more_file) =
    record { of = record { side = side; column = k }; sum = held + file } ∷ column_sums side (suc k) more_held more_file
column_sums side k held file = []

-- all sums: self costs by column, costs of calls by column, the number of calls
abbrev pub sums_of : FileTotals → FileTotals → List Sum
sums_of held file =
    column_sums SelfCost 0 held.self_cost file.self_cost
    ++ column_sums CallCost 0 held.call_cost file.call_cost
    ++ record { of = record { side = CallCount; column = 0 }; sum = held.call_count + file.call_count } ∷ []

-- the first sum above the bound
abbrev pub first_above : List Sum → Option Overflow
first_above [] = None
first_above (s ∷ sums) = if nat_lt bound s.sum then Some s.of else first_above sums

-- what does not fit
abbrev pub overflow_of : FileTotals → FileTotals → Option Overflow
overflow_of held file = first_above (sums_of held file)
