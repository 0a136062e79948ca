-- The first fault and the records as they can be told looking back, after some lines, of which the nearest stands first.
use Rattle.std.specs.Prelude.{ℕ, Bool, true, false, List, [], ◌∷◌, Ok, Err, Option, Some, None}
use Rattle.cg_text.specs.Readings.{Reading}
use Rattle.cg_text.specs.Kinds as kinds
use Rattle.cg_text.specs.Kinds.{Nothing}
use Rattle.cg_text.specs.declared.faults.Fault.{Fault}
use Rattle.cg_text.specs.declared.faults.Fault.TheVariants.{LineTooLong, CallWithoutCost}
use Rattle.text_pieces.specs.Backwards as pieces
use Rattle.callgrind_reader.specs.Faulty.{earlier_or}
use Rattle.profile_records.specs.Records.{Record}
use Rattle.callgrind_reader.specs.Calls.{number_after, awaiting}
use Rattle.callgrind_reader.specs.Lines.{record_of, fault_at}
use Rattle.callgrind_reader.specs.Files.{formulas_fault}

-- whether a line ends the wait for a cost line without being one
abbrev pub breaks : Reading → Bool
breaks (Ok Nothing) = false
breaks (Ok (kinds.Cost text)) = false
breaks (Err LineTooLong) = false
breaks r = true

-- the `calls=` line that a line leaves without its cost line
abbrev pub broken : Option (ℕ × ℕ) → Bool → Option ℕ
broken None b = None
broken (Some call) true = Some call.0
broken (Some call) false = None

abbrev pub at_number : Option Fault → ℕ → Option (Fault × ℕ)
at_number None n = None
at_number (Some fault) n = Some (fault, n)

-- the fault that a line shows: that of the `calls=` line that it leaves so, or its own
abbrev pub shows : Option ℕ → Option Fault → ℕ → Option (Fault × ℕ)
shows None own n = at_number own n
shows (Some at) own n = Some (CallWithoutCost, at)

-- the first fault that the lines so far show
abbrev pub seen : List Reading → Option (Fault × ℕ)
seen [] = None
seen (r ∷ back) = earlier_or (seen back) (shows (broken (awaiting back) (breaks r)) (fault_at r back) (number_after back))

-- at the end, a `calls=` line that still waits has no cost line
abbrev pub left_waiting : Option (ℕ × ℕ) → Option (Fault × ℕ)
left_waiting None = None
left_waiting (Some call) = Some (CallWithoutCost, call.0)

-- the fault of the least of the lines with one, if no more come
abbrev pub line_fault_after : List Reading → Option (Fault × ℕ)
line_fault_after back = earlier_or (seen back) (left_waiting (awaiting back))

-- the first fault, if no more lines come: faults of formulas come after those of lines
abbrev pub fault_after : List Reading → Option (Fault × ℕ)
fault_after back = earlier_or (line_fault_after back) (formulas_fault back)

abbrev pub unless_seen : {A : Type 0} → Option (Fault × ℕ) → List A → List A
unless_seen (Some fault) xs = []
unless_seen None xs = xs

-- what a line adds to the records
abbrev pub adds : Reading → List Reading → List Record
adds r back = unless_seen (seen (r ∷ back)) (record_of r back)

-- the records of the lines so far, up to the first fault that they show
abbrev pub handed_on : List Reading → List Record
handed_on = pieces.handed_on adds
