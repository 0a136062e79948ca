-- The calls of a function over runs of the tables.
use Rattle.std.specs.Prelude.{◌≡◌, ◌||◌, ℕ, Bool, false, if◌then◌else◌, List, [], ◌∷◌, map, fold, Option, Some, None, unwrap_or}
use Rattle.std.specs.List.{list_any}
use Rattle.cost_rows.specs.Keys.{place_of_row}
use Rattle.cost_rows.specs.Sums.{Spot}
use Rattle.cost_rows.specs.declared.rows.ArcRow.{ArcRow}
use Rattle.cost_rows.specs.declared.rows.CellRow.{CellRow}
use Rattle.cost_rows.specs.declared.rows.StackRow.{StackRow}
use Rattle.report_texts.specs.Calls.{Calls, CallsOfFunction, EventEdges, all_edges, call_report_of, call_report_text, calls_by, weighted_calls, with_calls}
use Rattle.report_texts.specs.Functions.{function_spot, is_one_function}
use Rattle.report_texts.specs.Inclusive.{is_frame}
use Rattle.report_texts.specs.declared.call_sides.CallSide.{CallSide}
use Rattle.run_stores.specs.Book.{cells_held, stacks_held}
use Rattle.plain_tables.specs.Tables.{Tables}
use Rattle.selected_runs.specs.NamedRows.{AreCallsOf}
use Rattle.histories.specs.declared.answers.Answer.{Answer}
use Rattle.requests.specs.Plain.{Selection}
use Rattle.histories.specs.FromTables.{AnswersBy, text_or_no_name}
use Rattle.selected_runs.specs.EventRuns.{AreEventRunsIn}
use Rattle.selected_runs.specs.declared.counting.Counted.{Counted}

-- whether calls are from a function or to it
abbrev pub touches : Spot → Calls → Bool
touches f c = is_one_function c.caller f || is_one_function c.callee f

-- what was taken of the calls of runs: whether one was from a function or to it, and those that are asked
pub record Taken : Type 0 where
  pub function : Spot
  pub known : Bool
  pub calls : CallsOfFunction

abbrev pub with_call : Taken → Calls → Taken
with_call m c = record m { known = m.known || touches m.function c; calls = with_calls m.calls c }

-- rows of the calls of each run; in a run without the event they cost nothing
abbrev pub AreEdgesOf : List Counted → Tables → List EventEdges → Type 0
AreEdgesOf [] t [] = Unit {0}
AreEdgesOf (run ∷ runs) t (r ∷ rows) = (r.coefs ≡ unwrap_or run.counts []) × AreCallsOf run.number t r.calls × AreEdgesOf runs t rows
AreEdgesOf runs t rows = ⊥

-- the calls of a run were taken, one after another
abbrev pub IsTakenFrom : Tables → Counted → Taken → Taken → Type 0
IsTakenFrom t run old new =
    (calls : List (ArcRow (List ℕ) (List ℕ))) × AreCallsOf run.number t calls × (new ≡ fold with_call old (map (weighted_calls (unwrap_or run.counts [])) calls))

-- and those of runs
abbrev pub AreTakenFrom : Tables → List Counted → Taken → Taken → Type 0
AreTakenFrom t runs old new = (rows : List EventEdges) × AreEdgesOf runs t rows × (new ≡ fold with_call old (all_edges rows))

-- before the first row
abbrev pub not_taken : CallSide → Spot → Taken
not_taken side f = record { function = f; known = false; calls = record { side = side; function = f; sums = [] } }

-- whether a function has self costs in a run, or a frame in its stacks
abbrev pub is_in_cells : Spot → List (CellRow (List ℕ)) → Bool
is_in_cells f cells = list_any (λ (r : CellRow (List ℕ)). is_one_function (place_of_row r) f) cells

abbrev pub is_in_stacks : Spot → List (StackRow (List ℕ)) → Bool
is_in_stacks f stacks = list_any (λ (r : StackRow (List ℕ)). is_frame f r.stack) stacks

abbrev pub is_in_rows : Tables → Spot → Counted → Bool
is_in_rows t f run = is_in_cells f (cells_held run.number t) || is_in_stacks f (stacks_held run.number t)

-- ---- the text

-- of what was taken of runs, where one of them knows the function
abbrev pub text_taken : Tables → List Counted → List ℕ → Taken → Option (List ℕ)
text_taken t runs event m = if m.known || list_any (is_in_rows t m.function) runs then Some (call_report_text event (call_report_of m.calls)) else None

-- of calls, where one of the runs knows the function
abbrev pub calls_text_over : Tables → List Counted → CallSide → Spot → List ℕ → List EventEdges → Option (List ℕ)
calls_text_over t runs side f event calls =
    if list_any (touches f) (all_edges calls) || list_any (is_in_rows t f) runs
    then Some (call_report_text event (call_report_of (record { side = side; function = f; sums = calls_by side f (all_edges calls) })))
    else None

abbrev pub IsCallsText : Tables → List Counted → CallSide → Spot → List ℕ → Option (List ℕ) → Type 0
IsCallsText t runs side f event text = (calls : List EventEdges) × AreEdgesOf runs t calls × (text ≡ calls_text_over t runs side f event calls)

-- ---- what is answered over the tables, whatever they represent

abbrev pub ShowsCalls : Tables → List Counted → CallSide → Spot → List ℕ → Answer → Type 0
ShowsCalls t runs side f event answer = (text : Option (List ℕ)) × IsCallsText t runs side f event text × (answer ≡ text_or_no_name text)

abbrev pub AreCallsShown : Tables → Selection → CallSide → List ℕ → List ℕ → List ℕ → Answer → Type 0
AreCallsShown t s side event object name answer = AnswersBy (AreEventRunsIn t s event) (λ runs. ShowsCalls t runs side (function_spot object name) event) answer
