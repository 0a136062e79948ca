-- What functions cost with all that they call, straight from the records and the stacks.
use Rattle.std.specs.Prelude.{◌≡◌, ℕ, ◌+◌, Bool, not, ◌&&◌, if◌then◌else◌, List, [], ◌∷◌, ◌++◌, map, fold, sum_by, codes}
use Rattle.std.specs.Borrow.{Bor}
use Rattle.std.specs.BTreeSet.{insert_key}
use Rattle.std.specs.List.{list_any}
use Rattle.cg_text.specs.Names.{unknown}
use Rattle.cost_rows.specs.KeySums.{Sums, rows_of, sums_by, total_of, with_row}
use Rattle.cost_rows.specs.Stacks.{bytes_cmp}
use Rattle.cost_rows.specs.StackSums.{frames_sum}
use Rattle.cost_rows.specs.Sums.{Spot}
use Rattle.cost_rows.specs.WalkSums.{stacks_count}
use Rattle.cost_rows.specs.declared.keys.Key.TheVariants.{Function}
use Rattle.cost_rows.specs.declared.rows.CellRow.{CellRow}
use Rattle.cost_rows.specs.declared.rows.StackRow.{StackRow}
use Rattle.profile_records.specs.Frames.{functions_of}
use Rattle.profile_records.specs.Stacks.{Seen}
use Rattle.byte_io.specs.Escapes.{escaped}
use Rattle.report_texts.specs.Calls.{Calls, all_calls}
use Rattle.report_texts.specs.Costs.{EventRecords, all_costs}
use Rattle.report_texts.specs.Functions.{function_spot, is_one_function}
use Rattle.report_texts.specs.KeyReports.{rank_cmp}
use Rattle.report_texts.specs.KeyTexts.{cost_line, rows_text}
use Rattle.report_texts.specs.Ranking.{ranked}

-- what calls to another function cost their callers
abbrev pub outward_costs : List Calls → List (Spot × ℕ)
outward_costs [] = []
outward_costs (c ∷ calls) = if is_one_function c.caller c.callee then outward_costs calls else (c.caller, c.sum.first) ∷ outward_costs calls

-- the functions that have a frame in a stack, each once
abbrev pub functions_in : List ℕ → List (List ℕ)
functions_in frames = fold (insert_key bytes_cmp) [] (functions_of frames)

-- a count at each of some functions, which are of no known object
abbrev pub names_costs : ℕ → List (List ℕ) → List (Spot × ℕ)
names_costs count names = map (λ name. (function_spot unknown name, count)) names

-- each stack counts once for each of its functions
abbrev pub frame_costs : List Seen → List (Spot × ℕ)
frame_costs [] = []
frame_costs (s ∷ seen) = names_costs s.stack.count (functions_in s.stack.frames) ++ frame_costs seen

-- what all stacks count
abbrev pub count_of : List Seen → ℕ
count_of [] = 0
count_of (s ∷ seen) = s.stack.count + count_of seen

-- what functions cost with all that they call, and what all cost by themselves
pub record InclusiveCosts : Type 0 where
  pub sums : List (Spot × ℕ)
  pub total : ℕ

-- self costs and the costs of calls from a function to another, of Callgrind files; and the stacks of folded ones
abbrev pub inclusive_costs : List EventRecords → List Seen → InclusiveCosts
inclusive_costs files seen = record {
  sums = sums_by Function (rows_of (all_costs files ++ (outward_costs (all_calls files) ++ frame_costs seen)));
  total = total_of (all_costs files) + count_of seen;
}

-- the greatest first
pub record RankedCosts : Type 0 where
  pub rows : List (Spot × ℕ)
  pub total : ℕ

abbrev pub inclusive_report : InclusiveCosts → RankedCosts
inclusive_report costs = record { rows = ranked rank_cmp costs.sums; total = costs.total }

-- ---- the text

abbrev pub inclusive_head : List ℕ → List ℕ
inclusive_head event = codes "inclusive " ++ (escaped event ++ codes "\n")

abbrev pub inclusive_text : List ℕ → RankedCosts → List ℕ
inclusive_text event r = inclusive_head event ++ (cost_line r.total r.total (codes "total") ++ rows_text Function r.total r.rows)

-- ---- costs that are handed in row by row

-- as sums by function
abbrev pub by_function : InclusiveCosts → Sums
by_function held = record { key = Function; sums = held.sums }

-- self costs of a Callgrind file
abbrev pub with_self : InclusiveCosts → CellRow (List ℕ) → InclusiveCosts
with_self held row = record { sums = (with_row (by_function held) row).sums; total = held.total + row.cost }

-- what calls cost
abbrev pub with_outward : InclusiveCosts → Calls → InclusiveCosts
with_outward held c = record held { sums = (fold with_row (by_function held) (rows_of (outward_costs (c ∷ [])))).sums }

-- a stack of a folded file
abbrev pub with_stack : InclusiveCosts → StackRow (List ℕ) → InclusiveCosts
with_stack held r = record {
  sums = (fold with_row (by_function held) (rows_of (names_costs r.count (functions_in r.stack)))).sums;
  total = held.total + r.count;
}

-- names that are lent
abbrev pub names_in : List (Bor (List ℕ)) → List (List ℕ)
names_in lent = map (λ (name : Bor (List ℕ)). name.now) lent

-- a row that is handed in
pub data InclusiveRow : Type 0 where
  OfSelf : CellRow (List ℕ) → InclusiveRow
  OfCalls : Calls → InclusiveRow
  OfStack : StackRow (List ℕ) → InclusiveRow

abbrev pub with_inclusive : InclusiveCosts → InclusiveRow → InclusiveCosts
with_inclusive held (OfSelf row) = with_self held row
with_inclusive held (OfCalls c) = with_outward held c
with_inclusive held (OfStack row) = with_stack held row

-- before the first row
abbrev pub no_costs : InclusiveCosts
no_costs = record { sums = []; total = 0 }

-- ---- from rows

abbrev pub row_costs : List (StackRow (List ℕ)) → List (Spot × ℕ)
row_costs [] = []
row_costs (r ∷ rows) = names_costs r.count (functions_in r.stack) ++ row_costs rows

abbrev pub rows_count : List (StackRow (List ℕ)) → ℕ
rows_count [] = 0
rows_count (r ∷ rows) = r.count + rows_count rows

-- rows of self costs and of calls of Callgrind runs, and of the stacks of folded ones
abbrev pub inclusive_rows : List (CellRow (List ℕ)) → List Calls → List (StackRow (List ℕ)) → InclusiveCosts
inclusive_rows own calls stacks = record {
  sums = sums_by Function (own ++ rows_of (outward_costs calls ++ row_costs stacks));
  total = sum_by (λ (r : CellRow (List ℕ)). r.cost) own + rows_count stacks;
}

-- the rows of each kind, among others
abbrev pub self_in : List InclusiveRow → List (CellRow (List ℕ))
self_in [] = []
self_in (OfSelf row ∷ rows) = row ∷ self_in rows
self_in (OfCalls c ∷ rows) = self_in rows
self_in (OfStack row ∷ rows) = self_in rows

abbrev pub calls_in : List InclusiveRow → List Calls
calls_in [] = []
calls_in (OfSelf row ∷ rows) = calls_in rows
calls_in (OfCalls c ∷ rows) = c ∷ calls_in rows
calls_in (OfStack row ∷ rows) = calls_in rows

abbrev pub stacks_in : List InclusiveRow → List (StackRow (List ℕ))
stacks_in [] = []
stacks_in (OfSelf row ∷ rows) = stacks_in rows
stacks_in (OfCalls c ∷ rows) = stacks_in rows
stacks_in (OfStack row ∷ rows) = row ∷ stacks_in rows

-- rows of stacks sum to the stacks that were seen, for every test of their frames
abbrev pub SameStacks : List (StackRow (List ℕ)) → List Seen → Type 0
SameStacks rows seen = (test : List ℕ → Bool) → stacks_count test rows ≡ frames_sum test seen

-- ---- of one function

-- what a function costs by itself
abbrev pub self_cost : Spot → List (Spot × ℕ) → ℕ
self_cost f [] = 0
self_cost f (e ∷ costs) = (if is_one_function e.0 f then e.1 else 0) + self_cost f costs

-- what its calls to other functions cost
abbrev pub outward_cost : Spot → List Calls → ℕ
outward_cost f [] = 0
outward_cost f (c ∷ calls) = (if not (is_one_function c.caller c.callee) && is_one_function c.caller f then c.sum.first else 0) + outward_cost f calls

-- whether it has a frame in a stack
abbrev pub is_frame : Spot → List ℕ → Bool
is_frame f frames = list_any (λ name. is_one_function (function_spot unknown name) f) (functions_of frames)

-- what the stacks count in which it has a frame
abbrev pub frame_count : Spot → List Seen → ℕ
frame_count f [] = 0
frame_count f (s ∷ seen) = (if is_frame f s.stack.frames then s.stack.count else 0) + frame_count f seen

abbrev pub inclusive_cost : Spot → List EventRecords → List Seen → ℕ
inclusive_cost f files seen = self_cost f (all_costs files) + (outward_cost f (all_calls files) + frame_count f seen)
