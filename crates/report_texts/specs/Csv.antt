-- What places cost by the names of events, as comma-separated values.
use Rattle.std.specs.Prelude.{◌≡◌, ℕ, ◌+◌, Bool, List, [], ◌∷◌, ◌++◌, flat_map, fold, codes, slice_get, slice_index, Option, Some, None}
use Rattle.std.specs.Fmt.{decimal}
use Rattle.std.specs.declared.cmp.Ordering.{Ordering}
use Rattle.std.specs.Ordering.{ordering_then}
use Rattle.csv.specs.Writing.{default_writer, row_text}
use Rattle.cost_rows.specs.Keys.{named_cmp, place_of_row}
use Rattle.cost_rows.specs.Stacks.{bytes_cmp}
use Rattle.cost_rows.specs.Sums.{Spot, any_thread, spot_of, self_sum}
use Rattle.cost_rows.specs.WalkSums.{rows_cost}
use Rattle.cost_rows.specs.declared.rows.CellRow.{CellRow}
use Rattle.profile_records.specs.Records.{Cost, Record, Own, Called}
use Rattle.report_texts.specs.Amounts.{amounts_by, with_amount}

-- a place, whichever thread ran there, and an event by its name
pub record EventSpot : Type 0 where
  pub spot : Spot
  pub event : List ℕ

-- texts by their bytes, lines by number, events last
abbrev pub event_spot_cmp : EventSpot → EventSpot → Ordering
event_spot_cmp a b = ordering_then (named_cmp a.spot b.spot) (bytes_cmp a.event b.event)

-- the events of a file by column, and its records
pub record NamedRecords : Type 0 where
  pub events : List (List ℕ)
  pub records : List Record

-- what a cost line says of events, of which the first has column k; what threads cost is added up
abbrev pub costs_from : Cost → ℕ → List (List ℕ) → List (EventSpot × ℕ)
costs_from cost k [] = []
costs_from cost k (event ∷ events) = (record { spot = any_thread (spot_of cost); event = event }, slice_index cost.costs k) ∷ costs_from cost (k + 1) events

-- what self records say; what calls cost is no self cost
abbrev pub named_costs : List (List ℕ) → List Record → List (EventSpot × ℕ)
named_costs events [] = []
named_costs events (Own cost ∷ records) = costs_from cost 0 events ++ named_costs events records
named_costs events (Called callee cost ∷ records) = named_costs events records

-- an event may have another column in each file
abbrev pub all_named : List NamedRecords → List (EventSpot × ℕ)
all_named [] = []
all_named (f ∷ files) = named_costs f.events f.records ++ all_named files

-- straight from records: the sums above 0, in order
abbrev pub csv_of_records : List NamedRecords → List (EventSpot × ℕ)
csv_of_records files = amounts_by event_spot_cmp (all_named files)

-- ---- the text

abbrev pub csv_header : List (List ℕ)
csv_header = codes "object" ∷ codes "file" ∷ codes "function" ∷ codes "line" ∷ codes "event" ∷ codes "cost" ∷ []

abbrev pub csv_fields : EventSpot × ℕ → List (List ℕ)
csv_fields e = e.0.spot.object ∷ e.0.spot.file ∷ e.0.spot.function ∷ decimal e.0.spot.line ∷ e.0.event ∷ decimal e.1 ∷ []

-- a row as the crate `csv` writes it: names as they are, with quotes where they need them
abbrev pub csv_row : EventSpot × ℕ → List ℕ
csv_row e = row_text default_writer (csv_fields e)

abbrev pub csv_rows : List (EventSpot × ℕ) → List ℕ
csv_rows sums = flat_map csv_row sums

abbrev pub csv_text : List (EventSpot × ℕ) → List ℕ
csv_text sums = row_text default_writer csv_header ++ csv_rows sums

-- ---- rows that are added one after another

-- a row's cost is added at its place and its event's name
abbrev pub with_cell : List (EventSpot × ℕ) → CellRow (List ℕ) → List ℕ → List (EventSpot × ℕ)
with_cell sums row event = with_amount event_spot_cmp sums (record { spot = any_thread (place_of_row row); event = event }) row.cost

abbrev pub with_cell_of : List (EventSpot × ℕ) → CellRow (List ℕ) → Option (List ℕ) → List (EventSpot × ℕ)
with_cell_of sums row None = sums
with_cell_of sums row (Some event) = with_cell sums row event

-- a row of a run with these events; one of none of them adds nothing
abbrev pub with_cell_in : List (List ℕ) → List (EventSpot × ℕ) → CellRow (List ℕ) → List (EventSpot × ℕ)
with_cell_in events sums row = with_cell_of sums row (slice_get events row.event)

-- ---- from rows

-- the events of a run by column, and its cells
pub record NamedCells : Type 0 where
  pub events : List (List ℕ)
  pub cells : List (CellRow (List ℕ))

-- the cells sum to the self records, for every test of places and each column
pub record NamesStandFor (f : NamedRecords) (r : NamedCells) : Type 0 where
  pub events : r.events ≡ f.events
  pub cells : (passes : Spot → Bool) (k : ℕ) → rows_cost passes k r.cells ≡ self_sum passes k f.records

-- run by run
abbrev pub NamesStandForEach : List NamedRecords → List NamedCells → Type 0
NamesStandForEach [] [] = Unit {0}
NamesStandForEach (f ∷ files) (r ∷ runs) = NamesStandFor f r × NamesStandForEach files runs
NamesStandForEach files runs = ⊥

-- the cells of a run are added, and those of runs
abbrev pub with_cells : List (EventSpot × ℕ) → NamedCells → List (EventSpot × ℕ)
with_cells sums r = fold (with_cell_in r.events) sums r.cells

abbrev pub csv_of_cells : List NamedCells → List (EventSpot × ℕ)
csv_of_cells runs = fold with_cells [] runs
