-- Reports over the files that a selection names.
use Rattle.std.specs.Prelude.{ℕ, suc, Bool, ◌||◌, ◌&&◌, nat_lt, if◌then◌else◌, List, [], ◌∷◌, map, flat_map, Option, unwrap_or}
use Rattle.std.specs.List.{list_any}
use Rattle.std.specs.Option.{is_some}
use Rattle.cg_formulas.specs.Flats.{row_in}
use Rattle.cost_rows.specs.declared.keys.Key.{Key}
use Rattle.cost_rows.specs.KeySums.{total_of}
use Rattle.cost_rows.specs.Sums.{Spot, spot_of, callee_spot}
use Rattle.report_texts.specs.Calls.{CallsOfFunction, all_calls, call_report_of, call_report_text, calls_by}
use Rattle.report_texts.specs.Costs.{EventRecords, all_costs, costs_by}
use Rattle.report_texts.specs.Differences.{DifferenceByKey, difference_of, difference_text}
use Rattle.report_texts.specs.Functions.{is_one_function}
use Rattle.report_texts.specs.Inclusive.{InclusiveCosts, inclusive_costs, inclusive_report, inclusive_text, is_frame}
use Rattle.report_texts.specs.KeyReports.{ReportByKey, report_of}
use Rattle.report_texts.specs.KeyTexts.{key_report_text}
use Rattle.report_texts.specs.Verifying.{verified, verify_text}
use Rattle.report_texts.specs.declared.call_sides.CallSide.{CallSide}
use Rattle.report_texts.specs.declared.cuts.Cut.{Cut}
use Rattle.profile_records.specs.Records.{Record, Own, Called}
use Rattle.profile_records.specs.Stacks.{Seen}
use Rattle.histories.specs.Formats.{Format, Callgrind, Folded}
use Rattle.histories.specs.Files.{events_of, derived_of, stated_of, records_of, stacks_of}
use Rattle.histories.specs.History.{File}
use Rattle.histories.specs.Sums.{self_column}

-- how often each column of a file counts in an event, if the file has it
abbrev pub counts_of : List ℕ → File → Option (List ℕ)
counts_of event f = row_in (events_of f.format f.bytes) (derived_of f.format f.bytes) event

abbrev pub has_event : List ℕ → File → Bool
has_event event f = is_some (counts_of event f)

-- ---- by key

-- the records of a file, which cost nothing in an event that it does not have
abbrev pub event_records : List ℕ → File → EventRecords
event_records event f = record { coefs = unwrap_or (counts_of event f) []; records = records_of f.format f.bytes }

-- what the self records of files cost in all
abbrev pub self_costs : List ℕ → List File → ℕ
self_costs event files = total_of (all_costs (map (event_records event) files))

abbrev pub report_by : List File → Key → List ℕ → Cut → ReportByKey
report_by files key event cut = report_of key cut (costs_by key (map (event_records event) files))

abbrev pub by_text : List File → Key → List ℕ → Cut → List ℕ
by_text files key event cut = key_report_text event (report_by files key event cut)

-- ---- inclusive costs

-- the records of a Callgrind file; a folded one has stacks in their place
abbrev pub called_records : Format → List ℕ → List Record
called_records (Callgrind g) bytes = records_of (Callgrind g) bytes
called_records Folded bytes = []

abbrev pub inclusive_records : List ℕ → File → EventRecords
inclusive_records event f = record { coefs = unwrap_or (counts_of event f) []; records = called_records f.format f.bytes }

-- the stacks of a file, which count nothing in an event that it does not have
abbrev pub event_stacks : List ℕ → File → List Seen
event_stacks event f = if has_event event f then stacks_of f.format f.bytes else []

abbrev pub inclusive_of : List File → List ℕ → InclusiveCosts
inclusive_of files event = inclusive_costs (map (inclusive_records event) files) (flat_map (event_stacks event) files)

abbrev pub inclusive_of_files : List File → List ℕ → List ℕ
inclusive_of_files files event = inclusive_text event (inclusive_report (inclusive_of files event))

-- ---- calls

-- the calls of files that have one side at a function; of a file without the event too, which cost nothing
abbrev pub calls_of_function : CallSide → Spot → List File → List ℕ → CallsOfFunction
calls_of_function side f files event = record { side = side; function = f; sums = calls_by side f (all_calls (map (event_records event) files)) }

abbrev pub calls_text : CallSide → Spot → List File → List ℕ → List ℕ
calls_text side f files event = call_report_text event (call_report_of (calls_of_function side f files event))

-- whether a record tells of a function: a line of it costs something in some column, or it calls or is called
abbrev pub tells_of : Spot → Record → Bool
tells_of f (Own cost) = is_one_function (spot_of cost) f && list_any (nat_lt 0) cost.costs
tells_of f (Called callee cost) = is_one_function (spot_of cost) f || is_one_function (callee_spot callee) f

-- whether it has a frame in a stack that was seen
abbrev pub is_seen_in : Spot → Seen → Bool
is_seen_in f s = nat_lt 0 s.stack.count && is_frame f s.stack.frames

abbrev pub knows : Spot → File → Bool
knows f file = list_any (tells_of f) (records_of file.format file.bytes) || list_any (is_seen_in f) (stacks_of file.format file.bytes)

-- ---- differences

abbrev pub costs_of_files : Key → List ℕ → List File → List (Spot × ℕ)
costs_of_files key event files = costs_by key (map (event_records event) files)

abbrev pub difference_by : Key → List ℕ → List File → List File → DifferenceByKey
difference_by key event firsts seconds = difference_of key (costs_of_files key event firsts) (costs_of_files key event seconds)

abbrev pub subtract_text : Key → List ℕ → List File → List File → List ℕ
subtract_text key event firsts seconds = difference_text event (difference_by key event firsts seconds)

-- ---- verification

-- the sums of columns, from one on
abbrev pub self_columns_from : File → ℕ → List (List ℕ) → List ℕ
self_columns_from f k [] = []
self_columns_from f k (event ∷ events) = self_column f.format f.bytes k ∷ self_columns_from f (suc k) events

abbrev pub self_columns : File → List ℕ
self_columns f = self_columns_from f 0 (events_of f.format f.bytes)

abbrev pub file_verified : File → List ℕ
file_verified f = verify_text (verified f.number (events_of f.format f.bytes) (self_columns f) (stated_of f.format f.bytes))

abbrev pub verified_text : List File → List ℕ
verified_text files = flat_map file_verified files
