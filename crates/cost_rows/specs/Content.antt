-- What the rows of one file hold, as plain lists, and what each record adds to them.
use Rattle.std.specs.Prelude.{ℕ, List, [], ◌∷◌, unwrap_or}
use Rattle.cg_text.specs.Names.{unknown}
use Rattle.profile_records.specs.Records.{Cost, Callee, Record, Own, Called}
use Rattle.profile_records.specs.Stacks.{Seen}
use Rattle.profile_records.specs.Frames.{leaf_of}
use Rattle.cost_rows.specs.Naming.{place_of, with_name}
use Rattle.profile_records.specs.Columns.{added}
use Rattle.cost_rows.specs.Calls.{Calls, calls_added}
use Rattle.cost_rows.specs.Merging.{merge}
use Rattle.cost_rows.specs.Places.{cell_cmp, call_cmp}
use Rattle.cost_rows.specs.Stacks.{bytes_cmp, counts_added}
use Rattle.cost_rows.specs.Trimmed.{trimmed}
use Rattle.cost_rows.specs.declared.places.Place.{Place}
use Rattle.cost_rows.specs.declared.places.CellPlace.{CellPlace}
use Rattle.cost_rows.specs.declared.places.Call.{Call}

-- names in the order in which they first came; self costs by place, calls, and counts of stacks, each key once, in order
pub record Content : Type 0 where
  pub names : List (List ℕ)
  pub cells : List (CellPlace × List ℕ)
  pub calls : List (Call × Calls)
  pub stacks : List (List ℕ × ℕ)

-- before the first record
abbrev pub empty : Content
empty = record { names = []; cells = []; calls = []; stacks = [] }

-- the number of a name that is held
abbrev pub number_of : List ℕ → List (List ℕ) → ℕ
number_of name names = unwrap_or (place_of name names) 0

-- names, and those of an object, a file and a function
abbrev pub with_three : List ℕ → List ℕ → List ℕ → List (List ℕ) → List (List ℕ)
with_three object file function names = with_name function (with_name file (with_name object names))

-- a place, where these names are held
abbrev pub place_in : List (List ℕ) → List ℕ → List ℕ → List ℕ → ℕ → Place
place_in names object file function line =
    record { object = number_of object names; file = number_of file names; function = number_of function names; line = line }

abbrev pub names_with_cost : Cost → List (List ℕ) → List (List ℕ)
names_with_cost cost names = with_three cost.object cost.file cost.function names

abbrev pub names_with_callee : Callee → List (List ℕ) → List (List ℕ)
names_with_callee callee names = with_three callee.object callee.file callee.function names

abbrev pub place_of_cost : List (List ℕ) → Cost → Place
place_of_cost names cost = place_in names cost.object cost.file cost.function cost.line

-- where self costs belong
abbrev pub cell_of : List (List ℕ) → Cost → CellPlace
cell_of names cost = record { place = place_of_cost names cost; thread = cost.thread }

abbrev pub call_of : List (List ℕ) → Callee → Cost → Call
call_of names callee cost = record {
  place = place_of_cost names cost;
  object = number_of callee.object names;
  file = number_of callee.file names;
  function = number_of callee.function names;
}

-- the costs of calls, without zeros at their end, and how many calls there were
abbrev pub calls_of : Callee → Cost → Calls
calls_of callee cost = record { count = callee.count; costs = trimmed cost.costs }

-- self costs are added at their place, without zeros at their end
abbrev pub cells_with : List (List ℕ) → Cost → List (CellPlace × List ℕ) → List (CellPlace × List ℕ)
cells_with names cost cells = merge cell_cmp added cells (cell_of names cost) (trimmed cost.costs)

-- the costs of calls and their number are added at their calls
abbrev pub calls_with : List (List ℕ) → Callee → Cost → List (Call × Calls) → List (Call × Calls)
calls_with names callee cost calls = merge call_cmp calls_added calls (call_of names callee cost) (calls_of callee cost)

-- a count is added to its stack
abbrev pub stacks_with : List ℕ → ℕ → List (List ℕ × ℕ) → List (List ℕ × ℕ)
stacks_with frames count stacks = merge bytes_cmp counts_added stacks frames count

abbrev pub with_cost : Content → Cost → Content
with_cost c cost =
    let names = names_with_cost cost c.names in
    record c { names = names; cells = cells_with names cost c.cells }

abbrev pub with_call : Content → Callee → Cost → Content
with_call c callee cost =
    let names = names_with_callee callee (names_with_cost cost c.names) in
    record c { names = names; calls = calls_with names callee cost c.calls }

abbrev pub with_record : Content → Record → Content
with_record c (Own cost) = with_cost c cost
with_record c (Called callee cost) = with_call c callee cost

-- a stack's count is a self cost of the function that was running, of no known object, file or line
abbrev pub leaf_cost : Seen → Cost
leaf_cost s = record { at = s.at; object = unknown; file = unknown; function = leaf_of s.stack.frames; line = 0; thread = 0; costs = s.stack.count ∷ [] }

-- it is added to its stack, and to the function that was running
abbrev pub with_stack : Content → Seen → Content
with_stack c s = record (with_cost c (leaf_cost s)) { stacks = stacks_with s.stack.frames s.stack.count c.stacks }
