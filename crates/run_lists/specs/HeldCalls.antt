-- The calls of a run, handed on row by row with the numbers of their names.
use Rattle.std.specs.Prelude.{◌≡◌, ◌≤◌, ℕ, List, [], ◌∷◌, ◌++◌, length, Option, Some, None}
use Rattle.cost_rows.specs.Above.{rows_above}
use Rattle.cost_rows.specs.declared.rows.ArcRow.{ArcRow}
use Rattle.plain_tables.specs.Tables.{StoredCall as Call}
use Rattle.run_stores.specs.Walks.{CallsFoldTo}
use Rattle.prof_store.specs.Lines.{call_row}
use Rattle.prof_store.specs.declared.table_rows.StoredCall.{StoredCall}
use Rattle.run_lists.specs.declared.handed_calls.CallLines.{CallLines}

-- the row of the calls whose count this line has
abbrev pub row_of : Call → List ℕ → ArcRow ℕ (List ℕ)
row_of first costs = record {
  object = first.object;
  file = first.file;
  function = first.function;
  line = first.line;
  called_object = first.called_object;
  called_file = first.called_file;
  called_function = first.called_function;
  count = first.sum;
  costs = costs;
}

-- the line of a part of the same calls
abbrev pub part_line : Call → ℕ → ℕ → Call
part_line first part sum = record first { part = part; sum = sum }

-- the lines of costs above 0, from a part on
abbrev pub lines_from : Call → ℕ → List ℕ → List Call
lines_from first part costs = rows_above (part_line first) part costs

-- the lines of the row that is not handed on yet: its count, and the costs so far
abbrev pub AreWaiting : ℕ → Option StoredCall → List ℕ → List Call → Type 0
AreWaiting events None costs lines = (costs ≡ []) × (lines ≡ [])
AreWaiting events (Some first) costs lines = (first.part ≡ 0) × (length costs ≤ events) × (lines ≡ call_row first ∷ lines_from (call_row first) 1 costs)

-- lines were taken: those of rows that were handed on, and behind them those of the row that waits
pub record HasTakenCalls {M : Type 0} (events : ℕ) (step : M → ArcRow ℕ (List ℕ) → M) (start came : M) (first : Option StoredCall) (costs : List ℕ) (lines : List Call) : Type 0 where
  pub handed : List Call
  pub came_to : CallsFoldTo events step start came handed
  pub waiting : List Call
  pub are_waiting : AreWaiting events first costs waiting
  pub lines_are : lines ≡ handed ++ waiting

-- the same of what takes them, of so many events
pub record HasTakenCallLines {T M : Type 0} (events : ℕ) (meaning : T → M) (step : M → ArcRow ℕ (List ℕ) → M) (start : M) (lines : List Call) (taker : CallLines T) : Type 0 where
  pub events_same : taker.events ≡ events
  pub taken : HasTakenCalls events step start (meaning taker.sink) taker.first taker.costs lines
