-- The records and the first fault of a whole file.
use Rattle.std.specs.Prelude.{ℕ, Bool, true, false, List, [], ◌∷◌, ◌++◌, map, length, Ok, Err, Option, Some, None}
use Rattle.cg_text.specs.Lines.{lines_of}
use Rattle.cg_text.specs.Readings.{Reading}
use Rattle.cg_text.specs.Kinds as kinds
use Rattle.cg_text.specs.Kinds.{Nothing, Calls}
use Rattle.cg_formulas.specs.Formulas.{Definition, formula_fault, derived_of}
use Rattle.cg_text.specs.declared.faults.Fault.{Fault}
use Rattle.cg_text.specs.declared.faults.Fault.TheVariants.{LineTooLong, CallWithoutCost}
use Rattle.text_pieces.specs.Backwards as pieces
use Rattle.text_pieces.specs.Backwards.{onto, in_all}
use Rattle.callgrind_reader.specs.Faulty.{earlier_or}
use Rattle.profile_records.specs.Records.{Record}
use Rattle.callgrind_reader.specs.Events.{events_of}
use Rattle.callgrind_reader.specs.Totals.{stated_of}
use Rattle.callgrind_reader.specs.Calls.{number_after}
use Rattle.callgrind_reader.specs.Definitions.{definitions_of}
use Rattle.callgrind_reader.specs.Grammars.{Grammar, Second, reading_in}
use Rattle.callgrind_reader.specs.Lines.{record_of, fault_at}

-- ---- a `calls=` line looks ahead

-- whether the next line that says something is a cost line, or is too long to be read
abbrev pub cost_follows : List Reading → Bool
cost_follows [] = false
cost_follows (Ok Nothing ∷ ahead) = cost_follows ahead
cost_follows (Ok (kinds.Cost text) ∷ ahead) = true
cost_follows (Err LineTooLong ∷ ahead) = true
cost_follows (r ∷ ahead) = false

abbrev pub unless : Bool → Option Fault
unless true = None
unless false = Some CallWithoutCost

abbrev pub call_fault : Reading → List Reading → Option Fault
call_fault (Ok (Calls value)) ahead = unless (cost_follows ahead)
call_fault r ahead = None

-- ---- all lines; `back` are those before, the nearest first, `ahead` those after

abbrev pub or_else : Option Fault → Option Fault → Option Fault
or_else (Some fault) other = Some fault
or_else None other = other

-- the fault of a line
abbrev pub fault_of : Reading → List Reading → List Reading → Option Fault
fault_of r back ahead = or_else (fault_at r back) (call_fault r ahead)

abbrev pub numbered_or : Option Fault → ℕ → Option (Fault × ℕ) → Option (Fault × ℕ)
numbered_or (Some fault) n later = Some (fault, n)
numbered_or None n later = later

-- the fault of the least line with one, and that line's number
abbrev pub first_fault : List Reading → List Reading → Option (Fault × ℕ)
first_fault back [] = None
first_fault back (r ∷ ahead) = numbered_or (fault_of r back ahead) (number_after back) (first_fault (r ∷ back) ahead)

abbrev pub unless_fault : {A : Type 0} → Option Fault → List A → List A
unless_fault (Some fault) xs = []
unless_fault None xs = xs

-- the records of the lines before the first with a fault
abbrev pub sound_records : List Reading → List Reading → List Record
sound_records back [] = []
sound_records back (r ∷ ahead) = unless_fault (fault_of r back ahead) (record_of r back ++ sound_records (r ∷ back) ahead)

abbrev pub names_or_none : Option (List (List ℕ)) → List (List ℕ)
names_or_none None = []
names_or_none (Some names) = names

-- the first fault of the formulas, over the events that these lines name
abbrev pub formulas_fault : List Reading → Option (Fault × ℕ)
formulas_fault back = formula_fault (names_or_none (events_of back)) (definitions_of back)

-- the fault of the least line with one, and where no line has one, the first of the formulas
abbrev pub fault_in : List Reading → Option (Fault × ℕ)
fault_in rs = earlier_or (first_fault [] rs) (formulas_fault (onto rs []))

-- ---- a text, by a grammar

-- each line by itself
abbrev pub readings_by : Grammar → List ℕ → List Reading
readings_by g text = map (reading_in g) (lines_of text)

-- all lines, the nearest to the end first
abbrev pub end_by : Grammar → List ℕ → List Reading
end_by g = pieces.end_of (reading_in g)

-- the first fault of a text, with its line; a text without one is accepted
abbrev pub fault_by : Grammar → List ℕ → Option (Fault × ℕ)
fault_by g text = fault_in (readings_by g text)

-- the records of the lines before the first with a fault; where the fault is a formula's, all records
abbrev pub records_by : Grammar → List ℕ → List Record
records_by g = in_all (reading_in g) (sound_records [])

-- the events of a text
abbrev pub events_by : Grammar → List ℕ → List (List ℕ)
events_by g text = names_or_none (events_of (end_by g text))

-- the definitions that its `event:` lines give
abbrev pub definitions_by : Grammar → List ℕ → List Definition
definitions_by g text = definitions_of (end_by g text)

-- its derived events, each with its coefficients
abbrev pub derived_by : Grammar → List ℕ → List (List ℕ × List ℕ)
derived_by g text = derived_of (events_by g text) (definitions_by g text)

-- the totals that it states, one for each event
abbrev pub stated_by : Grammar → List ℕ → Option (List ℕ)
stated_by g text = stated_of (length (events_by g text)) (end_by g text)

-- ---- a file that is read now

abbrev pub end_of : List ℕ → List Reading
end_of = end_by Second

abbrev pub fault_of_file : List ℕ → Option (Fault × ℕ)
fault_of_file = fault_by Second

abbrev pub records_of_file : List ℕ → List Record
records_of_file = records_by Second

abbrev pub events_of_file : List ℕ → List (List ℕ)
events_of_file = events_by Second

abbrev pub derived_of_file : List ℕ → List (List ℕ × List ℕ)
derived_of_file = derived_by Second

abbrev pub stated_of_file : List ℕ → Option (List ℕ)
stated_of_file = stated_by Second
