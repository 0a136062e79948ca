-- The record and the fault of a line, by itself and the lines before it.
use Rattle.std.specs.Prelude.{ℕ, List, [], ◌∷◌, nat_lt, if◌then◌else◌, Result, Ok, Err, Option, Some, None}
use Rattle.cg_text.specs.Readings.{Reading}
use Rattle.cg_text.specs.Kinds as kinds
use Rattle.cg_text.specs.Kinds.{Nothing, Header, Name, Calls, Jump}
use Rattle.cg_text.specs.Fields.{fields_of}
use Rattle.cg_formulas.specs.EventLines.{event_of}
use Rattle.cg_text.specs.Names.{name_of}
use Rattle.cg_text.specs.Numbers.{number_of, amount_of}
use Rattle.cg_text.specs.Words.{namespace_of}
use Rattle.cg_text.specs.declared.faults.Fault.{Fault}
use Rattle.cg_text.specs.declared.faults.Fault.TheVariants as faults
use Rattle.cg_text.specs.declared.words.HeaderKey.{HeaderKey}
use Rattle.cg_text.specs.declared.words.HeaderKey.TheVariants.{Version, Positions, Events, Event, Summary, Totals, Thread, Other}
use Rattle.cg_text.specs.declared.words.Namespace.TheVariants.{Object, File, Function}
use Rattle.callgrind_reader.specs.Faulty.{each, err_of}
use Rattle.profile_records.specs.Records.{Cost, Record, Own, Called}
use Rattle.callgrind_reader.specs.Names.{meaning, in_force, name_fault}
use Rattle.callgrind_reader.specs.Events.{events_of, events_fault}
use Rattle.callgrind_reader.specs.Positions.{form_of, settled, positions_fault}
use Rattle.callgrind_reader.specs.Costs.{row_at}
use Rattle.callgrind_reader.specs.Threads.{thread_in, thread_of}
use Rattle.callgrind_reader.specs.Calls.{number_after, awaiting, callee_of, count_at}

-- ---- records

-- costs at a line number, with the names in force
abbrev pub cost_of : ℕ → List ℕ → List Reading → Cost
cost_of line costs back = record {
  at = number_after back;
  object = in_force Object back;
  file = in_force File back;
  function = in_force Function back;
  line = line;
  thread = thread_of back;
  costs = costs;
}

-- a self record, or the record of a call that waits for its cost line
abbrev pub record_with : Option (ℕ × ℕ) → Cost → List Reading → Record
record_with None cost back = Own cost
record_with (Some call) cost back = Called (callee_of call.1 back) cost

abbrev pub row_record : Result (ℕ × List ℕ) Fault → List Reading → List Record
row_record (Err fault) back = []
row_record (Ok row) back = record_with (awaiting back) (cost_of row.0 row.1 back) back ∷ []

-- the record of a line, if it has one
abbrev pub record_of : Reading → List Reading → List Record
record_of (Ok (kinds.Cost text)) back = row_record (row_at text back) back
record_of r back = []

-- ---- faults

abbrev pub below_two : Result ℕ Fault → Option Fault
below_two (Ok n) = if nat_lt n 2 then None else Some faults.Version
below_two (Err fault) = Some faults.Version

-- a version is one number, 0 or 1
abbrev pub version_fault : List (List ℕ) → Option Fault
version_fault [] = Some faults.Version
version_fault (field ∷ []) = below_two (number_of field)
version_fault (field ∷ more ∷ fields) = Some faults.Version

abbrev pub header_fault : HeaderKey → List ℕ → List Reading → Option Fault
header_fault Version value back = version_fault (fields_of value)
header_fault Positions value back = positions_fault (form_of (fields_of value)) (settled back)
header_fault Events value back = events_fault (fields_of value) (events_of back)
header_fault Event value back = err_of (event_of value)
header_fault Summary value back = err_of (each amount_of (fields_of value))
header_fault Totals value back = err_of (each amount_of (fields_of value))
header_fault Thread value back = err_of (thread_in value)
header_fault Other value back = None

-- the fault that a line has by itself and the lines before it
abbrev pub fault_at : Reading → List Reading → Option Fault
fault_at (Err fault) back = Some fault
fault_at (Ok Nothing) back = None
fault_at (Ok Jump) back = None
fault_at (Ok (kinds.Cost text)) back = err_of (row_at text back)
fault_at (Ok (Header key value)) back = header_fault key value back
fault_at (Ok (Name word value)) back = name_fault (name_of value) (λ q. meaning (namespace_of word) q back)
fault_at (Ok (Calls value)) back = err_of (count_at value back)
