-- The rows that the head of a file becomes.
use Rattle.std.specs.Prelude.{ℕ, suc, ◌≡◌, ◌<◌, ◌^◌, List, [], ◌∷◌, ◌++◌, length, option_map, Option, Some, None, slice_get, ⊤}
use Rattle.std.specs.Fmt.{decimal}
use Rattle.cg_formulas.specs.declared.heads.FileHead.{FileHead}
use Rattle.cost_rows.specs.Above.{rows_above}
use Rattle.cost_rows.specs.Content.{Content}
use Rattle.cost_rows.specs.Totals.{cell_total, call_total}
use Rattle.plain_tables.specs.Tables.{EventRow, DerivedRow, CoefRow}

-- the total that a file states of a column, in decimal, if it states any
abbrev pub stated_at : Option (List ℕ) → ℕ → Option (List ℕ)
stated_at None place = None
stated_at (Some totals) place = option_map decimal (slice_get totals place)

-- the event of a column, with the sums of that column
abbrev pub event_row_of : ℕ → FileHead → Content → ℕ → List ℕ → EventRow
event_row_of run head c place name = record {
  run = run;
  place = place;
  name = name;
  self_cost = cell_total place c.cells;
  call_cost = call_total place c.calls;
  stated = stated_at head.stated place;
}

abbrev pub event_rows_from : ℕ → FileHead → Content → ℕ → List (List ℕ) → List EventRow
event_rows_from run head c place [] = []
event_rows_from run head c place (name ∷ names) = event_row_of run head c place name ∷ event_rows_from run head c (suc place) names

-- the events in the order of their columns
abbrev pub event_rows : ℕ → FileHead → Content → List EventRow
event_rows run head c = event_rows_from run head c 0 head.events

abbrev pub derived_rows_from : ℕ → ℕ → List (List ℕ × List ℕ) → List DerivedRow
derived_rows_from run place [] = []
derived_rows_from run place (d ∷ derived) = record { run = run; place = place; name = d.0 } ∷ derived_rows_from run (suc place) derived

-- the derived events in the order of the head
abbrev pub derived_rows : ℕ → FileHead → List DerivedRow
derived_rows run head = derived_rows_from run 0 head.derived.derived

-- how often a derived event counts an event
abbrev pub coef_row_of : ℕ → ℕ → ℕ → ℕ → CoefRow
coef_row_of run place event times = record { run = run; place = place; event = event; times = times }

-- the coefficients above 0 of one derived event, from an event on
abbrev pub coef_rows_at : ℕ → ℕ → ℕ → List ℕ → List CoefRow
coef_rows_at run place event times = rows_above (coef_row_of run place) event times

abbrev pub coef_rows_from : ℕ → ℕ → List (List ℕ × List ℕ) → List CoefRow
coef_rows_from run place [] = []
coef_rows_from run place (d ∷ derived) = coef_rows_at run place 0 d.1 ++ coef_rows_from run (suc place) derived

-- the coefficients above 0
abbrev pub coef_rows : ℕ → FileHead → List CoefRow
coef_rows run head = coef_rows_from run 0 head.derived.derived

-- the sums of a column are those that a column of the tables can hold
abbrev pub ColumnFits : Content → ℕ → Type 0
ColumnFits c k = (cell_total k c.cells < 2 ^ 63) × (call_total k c.calls < 2 ^ 63)

abbrev pub AreStated : Option (List ℕ) → ℕ → Type 0
AreStated None events = ⊤
AreStated (Some totals) events = length totals ≡ events

-- it states one total for each event, if any, and its derived events stand over its events
pub record IsComplete (head : FileHead) : Type 0 where
  pub stated : AreStated head.stated (length head.events)
  pub derived : length head.derived.events ≡ length head.events
