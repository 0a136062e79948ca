-- Inclusive costs that are kept in two parts: by the numbers of names, and by names.
use Rattle.std.specs.Prelude.{ℕ, ◌+◌, ◌*◌, Bool, ◌==◌, ◌&&◌, if◌then◌else◌, List, [], ◌++◌, map, slice_index}
use Rattle.std.specs.List.{AllByRecursion}
use Rattle.cg_formulas.specs.Formulas.{weighed}
use Rattle.cost_rows.specs.KeySums.{rows_of, sums_by}
use Rattle.cost_rows.specs.declared.keys.Key.TheVariants.{Function}
use Rattle.cost_rows.specs.declared.rows.ArcRow.{ArcRow}
use Rattle.cost_rows.specs.declared.rows.CellRow.{CellRow}
use Rattle.cost_rows.specs.declared.rows.StackRow.{StackRow}
use Rattle.report_texts.specs.Inclusive.{InclusiveCosts, no_costs, with_stack}
use Rattle.run_stores.specs.Book.{IsHeld}
use Rattle.plain_tables.specs.Tables.{Tables, NameRow}
use Rattle.run_stores.specs.Names.{named_cell, AreAmong}
use Rattle.selected_runs.specs.Sums.{number_rows, numbers_told, with_number}
use Rattle.selected_runs.specs.declared.parts.NumberPart.{NumberPart}
use Rattle.store_calls.specs.declared.inclusive_parts.InclusiveParts.{InclusiveParts}

-- what was added: by the numbers of functions, by those of called functions, and of stacks
pub record PartSums : Type 0 where
  pub numbers : List (NumberPart × ℕ)
  pub called : List (NumberPart × ℕ)
  pub self_cost : ℕ
  pub stacks : InclusiveCosts

abbrev pub sums_in : InclusiveParts → PartSums
sums_in parts = record { numbers = parts.numbers.sums; called = parts.called.sums; self_cost = parts.self_cost; stacks = parts.stacks }

abbrev pub none_added : PartSums
none_added = record { numbers = []; called = []; self_cost = 0; stacks = no_costs }

-- what both parts sum to, with the names in place
abbrev pub costs_named : List NameRow → PartSums → InclusiveCosts
costs_named names s = record {
  sums = sums_by Function (map (named_cell names) (number_rows s.numbers) ++ rows_of s.stacks.sums);
  total = s.self_cost + s.stacks.total;
}

-- the numbers that sums tell have names that are held
abbrev pub AreHeld : List NameRow → PartSums → Type 0
AreHeld names s = AllByRecursion (IsHeld names) (numbers_told Function s.numbers) × AllByRecursion (IsHeld names) (numbers_told Function s.called)

-- the names of the sums are some of all that are held, and those of what is called are held
pub record AreNamesFor (t : Tables) (s : PartSums) (names : List NameRow) : Type 0 where
  pub called : AllByRecursion (IsHeld t.names) (numbers_told Function s.called)
  pub among : AreAmong (numbers_told Function s.numbers) t.names names

-- ---- rows by number

-- a row's cost, at its function
abbrev pub with_function : List (NumberPart × ℕ) → CellRow ℕ → List (NumberPart × ℕ)
with_function sums row = (with_number (record { key = Function; sums = sums }) row).sums

abbrev pub with_self_costs : PartSums → CellRow ℕ → PartSums
with_self_costs s row = record s { numbers = with_function s.numbers row; self_cost = s.self_cost + row.cost }

-- calls that cost so much: at the caller, and at what is called
abbrev pub caller_cell : ArcRow ℕ (List ℕ) → ℕ → CellRow ℕ
caller_cell r cost = record { object = r.object; file = r.file; function = r.function; line = r.line; thread = 0; event = 0; cost = cost }

abbrev pub called_cell : ArcRow ℕ (List ℕ) → ℕ → CellRow ℕ
called_cell r cost = record { object = r.called_object; file = r.called_file; function = r.called_function; line = 0; thread = 0; event = 0; cost = cost }

abbrev pub with_calls : PartSums → ArcRow ℕ (List ℕ) → ℕ → PartSums
with_calls s r cost = record s { numbers = with_function s.numbers (caller_cell r cost); called = with_function s.called (called_cell r cost) }

abbrev pub with_stacks : PartSums → StackRow (List ℕ) → PartSums
with_stacks s row = record s { stacks = with_stack s.stacks row }

-- whether calls are of the caller itself, by number
abbrev pub is_of_itself : ArcRow ℕ (List ℕ) → Bool
is_of_itself r = (r.object == r.called_object) && (r.function == r.called_function)

-- ---- one row, of a run whose columns count so often

-- what was added so far
pub record Counting : Type 0 where
  pub counts : List ℕ
  pub sums : PartSums

abbrev pub weighted_number : List ℕ → CellRow ℕ → CellRow ℕ
weighted_number counts row = record row { event = 0; cost = slice_index counts row.event * row.cost }

abbrev pub with_self_row : Counting → CellRow ℕ → Counting
with_self_row m row = record m { sums = with_self_costs m.sums (weighted_number m.counts row) }

abbrev pub with_call_row : Counting → ArcRow ℕ (List ℕ) → Counting
with_call_row m row = record m { sums = if is_of_itself row then m.sums else with_calls m.sums row (weighed m.counts row.costs) }

abbrev pub with_stack_row : Counting → StackRow (List ℕ) → Counting
with_stack_row m row = record m { sums = with_stacks m.sums row }
