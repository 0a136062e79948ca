-- What the records of a file sum to, straight from the records.
use Rattle.std.specs.Prelude.{◌≡◌, ℕ, ◌+◌, Bool, true, false, ◌&&◌, ◌||◌, nat_lt, List, [], ◌∷◌, fold, slice_index, slice_index_or, if◌then◌else◌}
use Rattle.std.specs.List.{list_any}
use Rattle.std.specs.List.Sorted.{IsStrictlySortedBy}
use Rattle.std.specs.Map.{keys_of}
use Rattle.cg_text.specs.Distinct.{are_distinct}
use Rattle.profile_records.specs.Records.{Cost, Callee, Record, Own, Called}
use Rattle.cost_rows.specs.Content.{Content, empty, with_record}
use Rattle.cost_rows.specs.Merging.{sum_where}
use Rattle.cost_rows.specs.Places.{cell_cmp, call_cmp}
use Rattle.cost_rows.specs.Stacks.{bytes_cmp}
use Rattle.cost_rows.specs.declared.places.Place.{Place}
use Rattle.cost_rows.specs.declared.places.CellPlace.{CellPlace}
use Rattle.cost_rows.specs.declared.places.Call.{Call}

-- a place by its names
pub record Spot : Type 0 where
  pub object : List ℕ
  pub file : List ℕ
  pub function : List ℕ
  pub line : ℕ
  pub thread : ℕ

-- where self costs belong
abbrev pub spot_of : Cost → Spot
spot_of cost = record { object = cost.object; file = cost.file; function = cost.function; line = cost.line; thread = cost.thread }

-- the same place, whichever thread ran there
abbrev pub any_thread : Spot → Spot
any_thread s = record s { thread = 0 }

-- where calls are made; of the threads of calls nothing is told
abbrev pub caller_spot : Cost → Spot
caller_spot cost = any_thread (spot_of cost)

-- whom calls called, of no line
abbrev pub callee_spot : Callee → Spot
callee_spot callee = record { object = callee.object; file = callee.file; function = callee.function; line = 0; thread = 0 }

-- the name of a number
abbrev pub name_at : List (List ℕ) → ℕ → List ℕ
name_at names n = slice_index_or names n []

abbrev pub spot_at : List (List ℕ) → Place → Spot
spot_at names p = record { object = name_at names p.object; file = name_at names p.file; function = name_at names p.function; line = p.line; thread = 0 }

abbrev pub callee_at : List (List ℕ) → Call → Spot
callee_at names c = record { object = name_at names c.object; file = name_at names c.file; function = name_at names c.function; line = 0; thread = 0 }

abbrev pub cell_spot : List (List ℕ) → CellPlace → Spot
cell_spot names p = record (spot_at names p.place) { thread = p.thread }

-- a test of places, and one of calls, asked of what is held by number
abbrev pub passing_cell : (Spot → Bool) → List (List ℕ) → CellPlace → Bool
passing_cell passes names p = passes (cell_spot names p)

abbrev pub passing_call : (Spot → Spot → Bool) → List (List ℕ) → Call → Bool
passing_call passes names a = passes (spot_at names a.place) (callee_at names a)

-- column k of the cells at places that pass by their names
abbrev pub cells_where : (Spot → Bool) → ℕ → Content → ℕ
cells_where passes k c = sum_where (passing_cell passes c.names) (λ costs. slice_index costs k) c.cells

-- column k of the calls that pass by their names
abbrev pub calls_where : (Spot → Spot → Bool) → ℕ → Content → ℕ
calls_where passes k c = sum_where (passing_call passes c.names) (λ calls. slice_index calls.costs k) c.calls

-- how many these are
abbrev pub counts_where : (Spot → Spot → Bool) → Content → ℕ
counts_where passes c = sum_where (passing_call passes c.names) (λ calls. calls.count) c.calls

-- whether there are calls that pass, of whatever number and cost
abbrev pub has_edge : (Spot → Spot → Bool) → Content → Bool
has_edge passes c = list_any (passing_call passes c.names) (keys_of c.calls)

-- what the stacks that pass count
abbrev pub stacks_where : (List ℕ → Bool) → Content → ℕ
stacks_where passes c = sum_where passes (λ count. count) c.stacks

-- the sum of column k over the self records at places that pass
abbrev pub self_sum : (Spot → Bool) → ℕ → List Record → ℕ
self_sum passes k [] = 0
self_sum passes k (Own cost ∷ records) = (if passes (spot_of cost) then slice_index cost.costs k else 0) + self_sum passes k records
self_sum passes k (Called callee cost ∷ records) = self_sum passes k records

-- whether a record is a self record that costs something at a place that passes
abbrev pub costs_at : (Spot → Bool) → Record → Bool
costs_at passes (Own cost) = passes (spot_of cost) && list_any (nat_lt 0) cost.costs
costs_at passes (Called callee cost) = false

-- the sum of column k over the call records whose places and functions called pass
abbrev pub call_sum : (Spot → Spot → Bool) → ℕ → List Record → ℕ
call_sum passes k [] = 0
call_sum passes k (Own cost ∷ records) = call_sum passes k records
call_sum passes k (Called callee cost ∷ records) =
    (if passes (caller_spot cost) (callee_spot callee) then slice_index cost.costs k else 0) + call_sum passes k records

-- how many calls these records count
abbrev pub count_sum : (Spot → Spot → Bool) → List Record → ℕ
count_sum passes [] = 0
count_sum passes (Own cost ∷ records) = count_sum passes records
count_sum passes (Called callee cost ∷ records) = (if passes (caller_spot cost) (callee_spot callee) then callee.count else 0) + count_sum passes records

-- whether there is a call record that passes, of whatever count and cost
abbrev pub has_call : (Spot → Spot → Bool) → List Record → Bool
has_call passes [] = false
has_call passes (Own cost ∷ records) = has_call passes records
has_call passes (Called callee cost ∷ records) = passes (caller_spot cost) (callee_spot callee) || has_call passes records

-- the rows that records make
abbrev pub content_of_records : List Record → Content
content_of_records records = fold with_record empty records

-- rows that sum to what the records sum to: for every test of places and each column, and for every test of calls
pub record SumsToRecords (c : Content) (records : List Record) : Type 0 where
  pub cells : (passes : Spot → Bool) (k : ℕ) → cells_where passes k c ≡ self_sum passes k records
  pub calls : (passes : Spot → Spot → Bool) (k : ℕ) → calls_where passes k c ≡ call_sum passes k records
  pub counts : (passes : Spot → Spot → Bool) → counts_where passes c ≡ count_sum passes records
  -- and calls are there exactly where call records are, those of count and cost 0 too
  pub called : (passes : Spot → Spot → Bool) → has_edge passes c ≡ has_call passes records

-- each key stands once, in order, and no name stands twice
pub record IsInOrder (c : Content) : Type 0 where
  pub cells : IsStrictlySortedBy cell_cmp (keys_of c.cells)
  pub calls : IsStrictlySortedBy call_cmp (keys_of c.calls)
  pub stacks : IsStrictlySortedBy bytes_cmp (keys_of c.stacks)
  pub names : are_distinct c.names ≡ true
