-- Calls: how many there were, and what they cost by column.
use Rattle.std.specs.Prelude.{ℕ, ◌+◌, ◌<◌, ◌^◌, List, [], ◌∷◌}
use Rattle.profile_records.specs.Columns.{added, HaveRoom}
use Rattle.cost_rows.specs.Own.{valued}
use Rattle.cost_rows.specs.declared.places.Call.{Call}

pub record Calls : Type 0 where
  pub count : ℕ
  pub costs : List ℕ

-- calls and more calls
abbrev pub calls_added : Calls → Calls → Calls
calls_added held more = record { count = held.count + more.count; costs = added held.costs more.costs }

-- neither their number nor a sum is so great that one more record could make it wrap
abbrev pub AreSmall : Calls → Type 0
AreSmall held = (held.count < 2 ^ 127) × HaveRoom held.costs

-- sums of which the first is the number of calls
abbrev pub calls_from : List ℕ → Calls
calls_from [] = record { count = 0; costs = [] }
calls_from (count ∷ costs) = record { count = count; costs = costs }

-- such sums by call
abbrev pub calls_in : List (Call × List ℕ) → List (Call × Calls)
calls_in = valued calls_from
