-- The rows of a run, handed on with names in place.
use Rattle.std.specs.Prelude.{◌≡◌, ◌&&◌, ◌==◌, ℕ, Bool, List, map, flat_map, fold}
use Rattle.std.specs.List.{AllByRecursion, list_any}
use Rattle.cost_rows.specs.declared.rows.ArcRow.{ArcRow}
use Rattle.cost_rows.specs.declared.rows.CellRow.{CellRow}
use Rattle.plain_tables.specs.Tables.{Tables, NameRow, StoredCell}
use Rattle.run_stores.specs.Book.{cell_held, parts_held, parts_of, CellIsNamed}
use Rattle.run_stores.specs.Names.{named_cell}
use Rattle.run_stores.specs.Walks.{IsOfAnEvent}

-- ---- cells

-- the names of these rows are held and their events are there, and their cells folded to this, one after another
pub record NamedCellsFoldTo {M : Type 0} (names : List NameRow) (events : ℕ) (step : M → CellRow (List ℕ) → M) (start came : M) (lines : List StoredCell) : Type 0 where
  pub named : AllByRecursion (CellIsNamed names) lines
  pub of_events : AllByRecursion (IsOfAnEvent events) lines
  pub comes : came ≡ fold step start (map (cell_held names) lines)

-- ---- calls

-- rows of calls whose parts are those of a run
abbrev pub AreCallsOf : ℕ → Tables → List (ArcRow (List ℕ) (List ℕ)) → Type 0
AreCallsOf run t rows = parts_held run t ≡ flat_map parts_of rows

-- ---- what was named so far

-- by these names, whether all were held, and what took the rows
pub record Naming (M : Type 0) : Type 0 where
  pub names : List NameRow
  pub all_held : Bool
  pub taken : M

-- whether a name of this number is held
abbrev pub is_held : List NameRow → ℕ → Bool
is_held names n = list_any (λ (line : NameRow). line.number == n) names

abbrev pub cell_is_held : List NameRow → CellRow ℕ → Bool
cell_is_held names r = is_held names r.object && (is_held names r.file && is_held names r.function)

abbrev pub with_cell : {M : Type 0} → (M → CellRow (List ℕ) → M) → Naming M → CellRow ℕ → Naming M
with_cell step n r = record { names = n.names; all_held = n.all_held && cell_is_held n.names r; taken = step n.taken (named_cell n.names r) }
