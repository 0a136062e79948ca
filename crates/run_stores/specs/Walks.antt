-- The rows of a run, handed on with the numbers of their names.
use Rattle.std.specs.Prelude.{◌≡◌, ◌<◌, ℕ, List, ◌∷◌, map, flat_map, fold, length}
use Rattle.std.specs.List.{AllByRecursion}
use Rattle.cost_rows.specs.Above.{rows_above}
use Rattle.cost_rows.specs.declared.rows.ArcRow.{ArcRow}
use Rattle.cost_rows.specs.declared.rows.CellRow.{CellRow}
use Rattle.plain_tables.specs.Tables.{StoredCell, StoredCall}

-- ---- cells

abbrev pub cell_numbers : StoredCell → CellRow ℕ
cell_numbers c = record { object = c.object; file = c.file; function = c.function; line = c.line; thread = c.thread; event = c.event; cost = c.cost }

-- a cell is of one of so many events
abbrev pub IsOfAnEvent : ℕ → StoredCell → Type 0
IsOfAnEvent events c = c.event < events

-- the events of these rows are there, and their cells folded to this, one after another
pub record CellsFoldTo {M : Type 0} (events : ℕ) (step : M → CellRow ℕ → M) (start came : M) (lines : List StoredCell) : Type 0 where
  pub of_events : AllByRecursion (IsOfAnEvent events) lines
  pub comes : came ≡ fold step start (map cell_numbers lines)

-- ---- calls

-- a part of calls: part 0 counts them, part k + 1 is their cost in column k
pub record PartNumbers : Type 0 where
  pub object : ℕ
  pub file : ℕ
  pub function : ℕ
  pub line : ℕ
  pub called_object : ℕ
  pub called_file : ℕ
  pub called_function : ℕ
  pub part : ℕ
  pub sum : ℕ

abbrev pub part_numbers : StoredCall → PartNumbers
part_numbers a = record {
  object = a.object;
  file = a.file;
  function = a.function;
  line = a.line;
  called_object = a.called_object;
  called_file = a.called_file;
  called_function = a.called_function;
  part = a.part;
  sum = a.sum;
}

-- a part of a row of calls
abbrev pub part_of : ArcRow ℕ (List ℕ) → ℕ → ℕ → PartNumbers
part_of r part sum = record {
  object = r.object;
  file = r.file;
  function = r.function;
  line = r.line;
  called_object = r.called_object;
  called_file = r.called_file;
  called_function = r.called_function;
  part = part;
  sum = sum;
}

-- what a row of calls has: their number, always, and then their costs above 0
abbrev pub parts_of : ArcRow ℕ (List ℕ) → List PartNumbers
parts_of r = part_of r 0 r.count ∷ rows_above (part_of r) 1 r.costs

-- these are the rows of calls, each with a cost for each event, and the calls folded to this, one after another
pub record CallsFoldTo {M : Type 0} (events : ℕ) (step : M → ArcRow ℕ (List ℕ) → M) (start came : M) (lines : List StoredCall) : Type 0 where
  pub rows : List (ArcRow ℕ (List ℕ))
  pub parts_are : map part_numbers lines ≡ flat_map parts_of rows
  pub long : AllByRecursion (λ (r : ArcRow ℕ (List ℕ)). length r.costs ≡ events) rows
  pub comes : came ≡ fold step start rows
