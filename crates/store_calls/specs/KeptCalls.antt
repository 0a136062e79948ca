-- The calls of a function, kept by the numbers of names, and the same with names in place.
use Rattle.std.specs.Prelude.{◌≡◌, ◌||◌, ◌&&◌, ℕ, Bool, if◌then◌else◌, List, [], ◌∷◌, ◌++◌, map}
use Rattle.cg_formulas.specs.Formulas.{weighed}
use Rattle.cost_rows.specs.Sums.{Spot}
use Rattle.cost_rows.specs.declared.rows.ArcRow.{ArcRow}
use Rattle.cost_rows.specs.declared.rows.CellRow.{CellRow}
use Rattle.cost_rows.specs.declared.rows.StackRow.{StackRow}
use Rattle.report_texts.specs.Calls.{Calls, CallsOfFunction}
use Rattle.report_texts.specs.Functions.{function_spot, is_one_function}
use Rattle.report_texts.specs.Inclusive.{is_frame}
use Rattle.report_texts.specs.Pairs.{pairs_by}
use Rattle.report_texts.specs.declared.call_sides.CallSide.{CallSide}
use Rattle.report_texts.specs.declared.call_sides.CallSide.TheVariants.{Callers, Callees}
use Rattle.report_texts.specs.declared.pairs.Pair.{Pair}
use Rattle.plain_tables.specs.Tables.{NameRow}
use Rattle.run_stores.specs.Book.{name_of}
use Rattle.run_stores.specs.Names.{is_number}
use Rattle.store_calls.specs.FunctionCalls.{Taken}
use Rattle.store_calls.specs.declared.asked_functions.AskedFunction.{AskedFunction}
use Rattle.store_calls.specs.declared.asked_functions.FunctionNumbers.{FunctionNumbers}
use Rattle.store_calls.specs.declared.kept_rows.KeptCall.{KeptCall}
use Rattle.store_calls.specs.declared.kept_rows.KeptCalls.{KeptCalls}

-- ---- the function that is asked

-- a function by the numbers of its names
abbrev pub named_function : List NameRow → ℕ → ℕ → Spot
named_function names object function = function_spot (name_of names object) (name_of names function)

abbrev pub has_numbers : FunctionNumbers → ℕ → ℕ → Bool
has_numbers numbers object function = is_number numbers.object object && is_number numbers.function function

abbrev pub spot_asked : AskedFunction → Spot
spot_asked asked = function_spot asked.object.now asked.name.now

-- a function has its numbers where it has its names
abbrev pub IsAsked : List NameRow → AskedFunction → Type 0
IsAsked names asked = (object function : ℕ) → has_numbers asked.numbers object function ≡ is_one_function (named_function names object function) (spot_asked asked)

-- whether it was found so far, in cells by its numbers and in stacks by its names
abbrev pub with_cell_sought : AskedFunction × Bool → CellRow ℕ → AskedFunction × Bool
with_cell_sought m row = (m.0, m.1 || has_numbers m.0.numbers row.object row.function)

abbrev pub with_stack_sought : AskedFunction × Bool → StackRow (List ℕ) → AskedFunction × Bool
with_stack_sought m row = (m.0, m.1 || is_frame (spot_asked m.0) row.stack)

-- ---- rows of calls

-- whether calls are from the function or to it
abbrev pub number_touches : FunctionNumbers → ArcRow ℕ (List ℕ) → Bool
number_touches f r = has_numbers f r.object r.function || has_numbers f r.called_object r.called_function

-- whether they are on the side that is asked
abbrev pub is_kept : CallSide → FunctionNumbers → ArcRow ℕ (List ℕ) → Bool
is_kept Callers f r = has_numbers f r.called_object r.called_function
is_kept Callees f r = has_numbers f r.object r.function

-- the function on the other side, and what they sum to
abbrev pub kept_call : CallSide → ℕ → ArcRow ℕ (List ℕ) → KeptCall
kept_call Callers cost r = record { object = r.object; function = r.function; sum = record { first = cost; second = r.count } }
kept_call Callees cost r = record { object = r.called_object; function = r.called_function; sum = record { first = cost; second = r.count } }

-- ---- what was kept

-- whether a call was from the function or to it, and those on the side that is asked
pub record Kept : Type 0 where
  pub side : CallSide
  pub known : Bool
  pub calls : List KeptCall

abbrev pub kept_of : KeptCalls → Kept
kept_of c = record { side = c.side; known = c.known; calls = c.rows.items }

-- a row of a run whose columns count so often
abbrev pub with_kept : FunctionNumbers → List ℕ → Kept → ArcRow ℕ (List ℕ) → Kept
with_kept f counts m r = record m {
  known = m.known || number_touches f r;
  calls = if is_kept m.side f r then m.calls ++ kept_call m.side (weighed counts r.costs) r ∷ [] else m.calls;
}

-- while the rows of a run are read
pub record Keeping : Type 0 where
  pub numbers : FunctionNumbers
  pub counts : List ℕ
  pub kept : Kept

abbrev pub keeps_row : Keeping → ArcRow ℕ (List ℕ) → Keeping
keeps_row m r = record m { kept = with_kept m.numbers m.counts m.kept r }

-- ---- with names in place

abbrev pub call_numbers : KeptCall → List ℕ
call_numbers c = c.object ∷ c.function ∷ []

abbrev pub other_named : List NameRow → KeptCall → Spot × Pair
other_named names c = (named_function names c.object c.function, c.sum)

-- calls of a function that were kept
abbrev pub calls_named : List NameRow → CallSide → Spot → KeptCall → Calls
calls_named names Callers f c = record { caller = named_function names c.object c.function; callee = f; sum = c.sum }
calls_named names Callees f c = record { caller = f; callee = named_function names c.object c.function; sum = c.sum }

-- added up by the function on the other side
abbrev pub sums_named : List NameRow → Spot → Kept → CallsOfFunction
sums_named names f m = record { side = m.side; function = f; sums = pairs_by (map (other_named names) m.calls) }

-- what was taken by these names
abbrev pub taken_named : List NameRow → Spot → Kept → Taken
taken_named names f m = record { function = f; known = m.known; calls = sums_named names f m }
