-- The rows that are walked: names in place of their numbers, and no cell or stack whose sum is 0.
use Rattle.std.specs.Prelude.{ℕ, ◌<◌, List, [], ◌∷◌, map, nat_lt, if◌then◌else◌}
use Rattle.std.specs.List.{AllByRecursion}
use Rattle.cost_rows.specs.ByNumber.{numbered_cells, numbered_calls}
use Rattle.cost_rows.specs.Sums.{name_at}
use Rattle.cost_rows.specs.declared.places.CellPlace.{CellPlace}
use Rattle.cost_rows.specs.declared.places.Call.{Call}
use Rattle.cost_rows.specs.Calls.{Calls}
use Rattle.cost_rows.specs.declared.rows.CellRow.{CellRow}
use Rattle.cost_rows.specs.declared.rows.ArcRow.{ArcRow}
use Rattle.cost_rows.specs.declared.rows.StackRow.{StackRow}

-- a row with its names
abbrev pub cell_named : List (List ℕ) → CellRow ℕ → CellRow (List ℕ)
cell_named names r = record {
  object = name_at names r.object;
  file = name_at names r.file;
  function = name_at names r.function;
  line = r.line;
  thread = r.thread;
  event = r.event;
  cost = r.cost;
}

abbrev pub named_cells : List (List ℕ) → List (CellPlace × List ℕ) → List (CellRow (List ℕ))
named_cells names cells = map (cell_named names) (numbered_cells cells)

abbrev pub edge_named : List (List ℕ) → ArcRow ℕ (List ℕ) → ArcRow (List ℕ) (List ℕ)
edge_named names r = record {
  object = name_at names r.object;
  file = name_at names r.file;
  function = name_at names r.function;
  line = r.line;
  called_object = name_at names r.called_object;
  called_file = name_at names r.called_file;
  called_function = name_at names r.called_function;
  count = r.count;
  costs = r.costs;
}

abbrev pub named_calls : List (List ℕ) → List (Call × Calls) → List (ArcRow (List ℕ) (List ℕ))
named_calls names calls = map (edge_named names) (numbered_calls calls)

abbrev pub counted_stacks : List (List ℕ × ℕ) → List (StackRow (List ℕ))
counted_stacks [] = []
counted_stacks (e ∷ stacks) = if nat_lt 0 e.1 then record { stack = e.0; count = e.1 } ∷ counted_stacks stacks else counted_stacks stacks

-- ---- no row of 0

abbrev pub HaveCosts : List (CellRow (List ℕ)) → Type 0
HaveCosts rows = AllByRecursion (λ (r : CellRow (List ℕ)). 0 < r.cost) rows

abbrev pub HaveCounts : List (StackRow (List ℕ)) → Type 0
HaveCounts rows = AllByRecursion (λ (r : StackRow (List ℕ)). 0 < r.count) rows
