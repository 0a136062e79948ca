-- The rows that the rows of a file become, names by their numbers in the tables.
use Rattle.std.specs.Prelude.{ℕ, suc, nat_lt, if◌then◌else◌, List, [], ◌∷◌, ◌++◌, slice_index_or}
use Rattle.cost_rows.specs.declared.places.CellPlace.{CellPlace}
use Rattle.cost_rows.specs.declared.places.Call.{Call}
use Rattle.cost_rows.specs.Calls.{Calls}
use Rattle.cost_rows.specs.Above.{rows_above}
use Rattle.cost_rows.specs.Content.{Content}
use Rattle.plain_tables.specs.Tables.{Tables, RunRow, EventRow, DerivedRow, CoefRow, StoredCell, StoredCall, StoredStack}
use Rattle.plain_tables.specs.Changes.{with_next, with_run, with_events, with_derived, with_coefs, with_cells, with_calls, with_stacks}
use Rattle.plain_tables.specs.Files.{all_named, numbers_in}

-- the table's number of a name that the file has under a number of its own
abbrev pub numbered : List ℕ → ℕ → ℕ
numbered numbers name = slice_index_or numbers name 0

abbrev pub cell_row_of : ℕ → List ℕ → CellPlace → ℕ → ℕ → StoredCell
cell_row_of run numbers p event cost = record {
  run = run;
  object = numbered numbers p.place.object;
  file = numbered numbers p.place.file;
  function = numbered numbers p.place.function;
  line = p.place.line;
  thread = p.thread;
  event = event;
  cost = cost;
}

-- the sums above 0 at a place, from an event on
abbrev pub cell_rows_at : ℕ → List ℕ → CellPlace → ℕ → List ℕ → List StoredCell
cell_rows_at run numbers p event costs = rows_above (cell_row_of run numbers p) event costs

abbrev pub cell_rows : ℕ → List ℕ → List (CellPlace × List ℕ) → List StoredCell
cell_rows run numbers [] = []
cell_rows run numbers (e ∷ cells) = cell_rows_at run numbers e.0 0 e.1 ++ cell_rows run numbers cells

abbrev pub call_row_of : ℕ → List ℕ → Call → ℕ → ℕ → StoredCall
call_row_of run numbers c part sum = record {
  run = run;
  object = numbered numbers c.place.object;
  file = numbered numbers c.place.file;
  function = numbered numbers c.place.function;
  line = c.place.line;
  called_object = numbered numbers c.object;
  called_file = numbered numbers c.file;
  called_function = numbered numbers c.function;
  part = part;
  sum = sum;
}

-- the costs above 0 of calls, from a part on
abbrev pub call_rows_from : ℕ → List ℕ → Call → ℕ → List ℕ → List StoredCall
call_rows_from run numbers c part costs = rows_above (call_row_of run numbers c) part costs

-- their number, always, and then their costs
abbrev pub call_rows_at : ℕ → List ℕ → Call → Calls → List StoredCall
call_rows_at run numbers c calls = call_row_of run numbers c 0 calls.count ∷ call_rows_from run numbers c 1 calls.costs

abbrev pub call_rows : ℕ → List ℕ → List (Call × Calls) → List StoredCall
call_rows run numbers [] = []
call_rows run numbers (e ∷ calls) = call_rows_at run numbers e.0 e.1 ++ call_rows run numbers calls

-- the counts of stacks above 0
abbrev pub stack_rows : ℕ → List (List ℕ × ℕ) → List StoredStack
stack_rows run [] = []
stack_rows run (e ∷ stacks) = if nat_lt 0 e.1 then record { run = run; frames = e.0; count = e.1 } ∷ stack_rows run stacks else stack_rows run stacks

-- what the rows of a file make of the tables: its names are held, and its rows follow the others
abbrev pub with_rows : ℕ → Content → Tables → Tables
with_rows run c t =
    let known = all_named c.names t in
    let numbers = numbers_in known c.names in
    with_stacks (stack_rows run c.stacks) (with_calls (call_rows run numbers c.calls) (with_cells (cell_rows run numbers c.cells) known))

-- what a run says of itself makes this of them
abbrev pub with_head : RunRow → List EventRow → List DerivedRow → List CoefRow → Tables → Tables
with_head r events derived coefs t = with_coefs coefs (with_derived derived (with_events events (with_run r (with_next (suc r.number) t))))
