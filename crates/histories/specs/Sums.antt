-- The sums over files, by the names of events, and the first that would pass its bound.
use Rattle.std.specs.Prelude.{ℕ, suc, ◌+◌, true, nat_lt, bytes_eq, if◌then◌else◌, List, [], ◌∷◌, ◌++◌, sum_by, slice_index_or, Option, Some, None}
use Rattle.cost_rows.specs.Admit.{bound}
use Rattle.cost_rows.specs.Sums.{self_sum, call_sum, count_sum}
use Rattle.cost_rows.specs.declared.limits.Overflow.{Overflow}
use Rattle.cost_rows.specs.declared.limits.Side.{Side}
use Rattle.cost_rows.specs.declared.limits.Side.TheVariants as sides
use Rattle.histories.specs.Formats.{Format}
use Rattle.histories.specs.Files.{events_of, records_of}
use Rattle.histories.specs.History.{File}
use Rattle.histories.specs.declared.answers.Excess.{Excess}
use Rattle.histories.specs.declared.answers.Excess.TheVariants.{SelfCost, CallCost, CallCount}

-- ---- of one file: the sums of its columns over all self records, over all call records, and how many calls these count

abbrev pub self_column : Format → List ℕ → ℕ → ℕ
self_column format bytes k = self_sum (λ _. true) k (records_of format bytes)

abbrev pub call_column : Format → List ℕ → ℕ → ℕ
call_column format bytes k = call_sum (λ _ _. true) k (records_of format bytes)

abbrev pub calls_of : Format → List ℕ → ℕ
calls_of format bytes = count_sum (λ _ _. true) (records_of format bytes)

-- the sum of the column that has this name, from column k on
abbrev pub column_named : List ℕ → (ℕ → ℕ) → ℕ → List (List ℕ) → ℕ
column_named name column k [] = 0
column_named name column k (event ∷ events) = (if bytes_eq event name then column k else 0) + column_named name column (suc k) events

-- ---- of all files

abbrev pub self_held : List File → List ℕ → ℕ
self_held files name = sum_by (λ (f : File). column_named name (self_column f.format f.bytes) 0 (events_of f.format f.bytes)) files

abbrev pub calls_cost_held : List File → List ℕ → ℕ
calls_cost_held files name = sum_by (λ (f : File). column_named name (call_column f.format f.bytes) 0 (events_of f.format f.bytes)) files

abbrev pub calls_held : List File → ℕ
calls_held files = sum_by (λ (f : File). calls_of f.format f.bytes) files

-- ---- with one file more

-- a sum, and what is refused if it passes the bound
pub record Sum : Type 0 where
  pub of : Excess
  pub sum : ℕ

abbrev pub self_sums : List File → (ℕ → ℕ) → ℕ → List (List ℕ) → List Sum
self_sums files column k [] = []
self_sums files column k (event ∷ events) = record { of = SelfCost event; sum = self_held files event + column k } ∷ self_sums files column (suc k) events

abbrev pub call_sums : List File → (ℕ → ℕ) → ℕ → List (List ℕ) → List Sum
call_sums files column k [] = []
call_sums files column k (event ∷ events) =
    record { of = CallCost event; sum = calls_cost_held files event + column k } ∷ call_sums files column (suc k) events

-- self costs by event, then costs of calls by event, then the number of calls
abbrev pub sums_with : List File → Format → List ℕ → List Sum
sums_with files format bytes =
    self_sums files (self_column format bytes) 0 (events_of format bytes)
    ++ call_sums files (call_column format bytes) 0 (events_of format bytes)
    ++ record { of = CallCount; sum = calls_held files + calls_of format bytes } ∷ []

abbrev pub first_above : List Sum → Option Excess
first_above [] = None
first_above (s ∷ sums) = if nat_lt bound s.sum then Some s.of else first_above sums

-- the first sum over these files and one more that is above 2^63-1
abbrev pub excess_of : List File → Format → List ℕ → Option Excess
excess_of files format bytes = first_above (sums_with files format bytes)

-- ---- by column

-- a sum of this side, by the name of its event
abbrev pub excess_on : Side → List ℕ → Excess
excess_on sides.SelfCost name = SelfCost name
excess_on sides.CallCost name = CallCost name
excess_on sides.CallCount name = CallCount

-- what does not fit, where these are the events by column
abbrev pub excess_at : List (List ℕ) → Overflow → Excess
excess_at events o = excess_on o.side (slice_index_or events o.column [])
