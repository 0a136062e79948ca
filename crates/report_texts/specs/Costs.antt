-- What self records cost by an event, straight from the records; and the same from cells that represent them.
use Rattle.std.specs.Prelude.{◌≡◌, ℕ, ◌*◌, Bool, List, [], ◌∷◌, ◌++◌, map, slice_index}
use Rattle.cg_formulas.specs.Formulas.{weighed}
use Rattle.cost_rows.specs.KeySums.{rows_of, sums_by}
use Rattle.cost_rows.specs.Sums.{Spot, spot_of, self_sum}
use Rattle.cost_rows.specs.WalkSums.{rows_cost}
use Rattle.cost_rows.specs.declared.keys.Key.{Key}
use Rattle.cost_rows.specs.declared.rows.CellRow.{CellRow}
use Rattle.profile_records.specs.Records.{Record, Own, Called}

-- the records of a file, and how often each of its columns counts in an event
pub record EventRecords : Type 0 where
  pub coefs : List ℕ
  pub records : List Record

-- the places of the self records, each with its costs as often as they count
abbrev pub costs_of : List ℕ → List Record → List (Spot × ℕ)
costs_of coefs [] = []
costs_of coefs (Own cost ∷ records) = (spot_of cost, weighed coefs cost.costs) ∷ costs_of coefs records
costs_of coefs (Called callee cost ∷ records) = costs_of coefs records

-- those of some files; an event may count otherwise in each
abbrev pub all_costs : List EventRecords → List (Spot × ℕ)
all_costs [] = []
all_costs (f ∷ files) = costs_of f.coefs f.records ++ all_costs files

-- the sums by key, those above 0: what a report by key is of
abbrev pub costs_by : Key → List EventRecords → List (Spot × ℕ)
costs_by key files = sums_by key (rows_of (all_costs files))

-- ---- from cells

-- the cells of a run, and how often each of its columns counts in an event
pub record EventCells : Type 0 where
  pub coefs : List ℕ
  pub cells : List (CellRow (List ℕ))

-- a cell of one column as a row of the event
abbrev pub weighted : List ℕ → CellRow (List ℕ) → CellRow (List ℕ)
weighted coefs r = record r { event = 0; cost = slice_index coefs r.event * r.cost }

abbrev pub all_rows : List EventCells → List (CellRow (List ℕ))
all_rows [] = []
all_rows (r ∷ runs) = map (weighted r.coefs) r.cells ++ all_rows runs

-- the cells sum to the self records, for every test of places and each column
pub record Represents (f : EventRecords) (r : EventCells) : Type 0 where
  pub coefs : r.coefs ≡ f.coefs
  pub cells : (passes : Spot → Bool) (k : ℕ) → rows_cost passes k r.cells ≡ self_sum passes k f.records

-- run by run
abbrev pub StandForEach : List EventRecords → List EventCells → Type 0
StandForEach [] [] = Unit {0}
StandForEach (f ∷ files) (r ∷ runs) = Represents f r × StandForEach files runs
StandForEach files runs = ⊥
