-- Who calls a function, and whom it calls: what the calls cost and how many there were, straight from the records.
use Rattle.std.specs.Prelude.{◌≡◌, ℕ, ◌+◌, Bool, if◌then◌else◌, List, [], ◌∷◌, ◌++◌, map, flat_map, codes}
use Rattle.std.specs.Borrow.{Bor}
use Rattle.std.specs.Fmt.{decimal}
use Rattle.std.specs.declared.cmp.Ordering.{Ordering}
use Rattle.std.specs.Ordering.{nat_cmp, ordering_then}
use Rattle.cg_formulas.specs.Formulas.{weighed}
use Rattle.cost_rows.specs.Keys.{named_cmp}
use Rattle.cost_rows.specs.Sums.{Spot, call_sum, count_sum, has_call}
use Rattle.cost_rows.specs.WalkSums.{calls_cost, calls_count, has_calls}
use Rattle.cost_rows.specs.declared.keys.Key.TheVariants.{Function}
use Rattle.cost_rows.specs.declared.rows.ArcRow.{ArcRow}
use Rattle.profile_records.specs.Records.{Record, Own, Called}
use Rattle.byte_io.specs.Escapes.{escaped}
use Rattle.report_texts.specs.Costs.{EventRecords}
use Rattle.report_texts.specs.Functions.{function_spot, is_one_function}
use Rattle.report_texts.specs.KeyTexts.{part_text}
use Rattle.report_texts.specs.Pairs.{pairs_added, pairs_with, pairs_by, pair_total}
use Rattle.report_texts.specs.Ranking.{ranked}
use Rattle.report_texts.specs.declared.call_sides.CallSide.{CallSide}
use Rattle.report_texts.specs.declared.call_sides.CallSide.TheVariants.{Callers, Callees}
use Rattle.report_texts.specs.declared.pairs.Pair.{Pair}

-- calls from a function to a function: what they cost, and how many there were
pub record Calls : Type 0 where
  pub caller : Spot
  pub callee : Spot
  pub sum : Pair

-- the calls of a file, and how often each of its columns counts in an event
abbrev pub calls_of : List ℕ → List Record → List Calls
calls_of coefs [] = []
calls_of coefs (Own cost ∷ records) = calls_of coefs records
calls_of coefs (Called callee cost ∷ records) = record {
  caller = function_spot cost.object cost.function;
  callee = function_spot callee.object callee.function;
  sum = record { first = weighed coefs cost.costs; second = callee.count };
} ∷ calls_of coefs records

-- those of some files; an event may count otherwise in each
abbrev pub all_calls : List EventRecords → List Calls
all_calls [] = []
all_calls (f ∷ files) = calls_of f.coefs f.records ++ all_calls files

-- the function that is asked about, and that on the other side of the calls
abbrev pub asked : CallSide → Calls → Spot
asked Callers c = c.callee
asked Callees c = c.caller

abbrev pub other : CallSide → Calls → Spot
other Callers c = c.caller
other Callees c = c.callee

-- the calls of a function, each with the function on its other side
abbrev pub calls_at : CallSide → Spot → List Calls → List (Spot × Pair)
calls_at side f [] = []
calls_at side f (c ∷ calls) = if is_one_function f (asked side c) then (other side c, c.sum) ∷ calls_at side f calls else calls_at side f calls

-- added up by that function
abbrev pub calls_by : CallSide → Spot → List Calls → List (Spot × Pair)
calls_by side f calls = pairs_by (calls_at side f calls)

-- the greatest cost first; of equal costs by function: each stands once, so the count decides nothing
abbrev pub call_cmp : Spot × Pair → Spot × Pair → Ordering
call_cmp a b = ordering_then (nat_cmp b.1.first a.1.first) (ordering_then (named_cmp a.0 b.0) (nat_cmp a.1.second b.1.second))

-- calls of a function; those of no cost are there too
pub record CallsOfFunction : Type 0 where
  pub side : CallSide
  pub function : Spot
  pub sums : List (Spot × Pair)

-- the greatest first
pub record RankedCalls : Type 0 where
  pub side : CallSide
  pub function : Spot
  pub rows : List (Spot × Pair)
  pub total : Pair

abbrev pub call_report_of : CallsOfFunction → RankedCalls
call_report_of c = record { side = c.side; function = c.function; rows = ranked call_cmp c.sums; total = pair_total c.sums }

-- ---- the text

abbrev pub side_name : CallSide → List ℕ
side_name Callers = codes "callers"
side_name Callees = codes "callees"

-- what calls cost, and how many there were
abbrev pub pair_text : Pair → List ℕ
pair_text sum = decimal sum.first ++ (codes " " ++ decimal sum.second)

abbrev pub call_line : Pair → List ℕ → List ℕ
call_line sum name = pair_text sum ++ (codes " " ++ (name ++ codes "\n"))

abbrev pub call_row_text : Spot × Pair → List ℕ
call_row_text row = call_line row.1 (part_text Function row.0)

abbrev pub call_lines : List (Spot × Pair) → List ℕ
call_lines rows = flat_map call_row_text rows

-- whose calls they are, and of which event
abbrev pub call_head : CallSide → List ℕ → Spot → List ℕ
call_head side event f = side_name side ++ (codes " " ++ (escaped event ++ (codes " " ++ (part_text Function f ++ codes "\n"))))

abbrev pub call_report_text : List ℕ → RankedCalls → List ℕ
call_report_text event r = call_head r.side event r.function ++ (call_line r.total (codes "total") ++ call_lines r.rows)

-- ---- calls that are handed in row by row

-- a row of calls, which cost what they do in one event
abbrev pub calls_of_row : ArcRow (Bor (List ℕ)) ℕ → Calls
calls_of_row r = record {
  caller = function_spot r.object.now r.function.now;
  callee = function_spot r.called_object.now r.called_function.now;
  sum = record { first = r.costs; second = r.count };
}

abbrev pub with_calls : CallsOfFunction → Calls → CallsOfFunction
with_calls held c = if is_one_function held.function (asked held.side c) then record held { sums = pairs_with (other held.side c) c.sum held.sums } else held

-- ---- from rows of calls

-- the rows of calls of a run, and how often each of its columns counts in an event
pub record EventEdges : Type 0 where
  pub coefs : List ℕ
  pub calls : List (ArcRow (List ℕ) (List ℕ))

-- a row of calls as calls of the event
abbrev pub weighted_calls : List ℕ → ArcRow (List ℕ) (List ℕ) → Calls
weighted_calls coefs r = record {
  caller = function_spot r.object r.function;
  callee = function_spot r.called_object r.called_function;
  sum = record { first = weighed coefs r.costs; second = r.count };
}

abbrev pub all_edges : List EventEdges → List Calls
all_edges [] = []
all_edges (r ∷ runs) = map (weighted_calls r.coefs) r.calls ++ all_edges runs

-- the rows sum to the call records, for every test of calls and each column, and are there where these are
pub record CallsRepresent (f : EventRecords) (r : EventEdges) : Type 0 where
  pub coefs : r.coefs ≡ f.coefs
  pub costs : (passes : Spot → Spot → Bool) (k : ℕ) → calls_cost passes k r.calls ≡ call_sum passes k f.records
  pub counts : (passes : Spot → Spot → Bool) → calls_count passes r.calls ≡ count_sum passes f.records
  pub called : (passes : Spot → Spot → Bool) → has_calls passes r.calls ≡ has_call passes f.records

-- run by run
abbrev pub CallsRepresentEach : List EventRecords → List EventEdges → Type 0
CallsRepresentEach [] [] = Unit {0}
CallsRepresentEach (f ∷ files) (r ∷ runs) = CallsRepresent f r × CallsRepresentEach files runs
CallsRepresentEach files runs = ⊥

-- ---- laws

-- how often a function stands in a list
abbrev pub times_in : List Spot → Spot → ℕ
times_in [] f = 0
times_in (g ∷ functions) f = (if is_one_function g f then 1 else 0) + times_in functions f

-- each function that calls or is called stands once in a list
abbrev pub HaveFunctions : List Spot → List Calls → Type 0
HaveFunctions functions [] = Unit {0}
HaveFunctions functions (c ∷ calls) = (times_in functions c.caller ≡ 1) × ((times_in functions c.callee ≡ 1) × HaveFunctions functions calls)

-- the totals of the reports of some functions, added up
abbrev pub totals_of : CallSide → List Calls → List Spot → Pair
totals_of side calls [] = record { first = 0; second = 0 }
totals_of side calls (f ∷ functions) = pairs_added (pair_total (calls_by side f calls)) (totals_of side calls functions)

-- what calls sum to
abbrev pub sum_of : List Calls → Pair
sum_of [] = record { first = 0; second = 0 }
sum_of (c ∷ calls) = pairs_added c.sum (sum_of calls)
