-- The events of a file that is accepted stand apart.
use Rattle.std.proofs.Common.{◌≡◌, ℕ, Bool, true, false, not, ◌==◌, nat_lt, List, [], ◌∷◌, length, Ok, Option, Some, None, if◌then◌else◌, refl}
use Rattle.cg_text.specs.Distinct.{are_distinct}
use Rattle.cg_text.specs.Fields.{fields_of}
use Rattle.cg_text.specs.Kinds.{Header}
use Rattle.cg_text.specs.Readings.{Reading}
use Rattle.cg_text.specs.declared.faults.Fault.{Fault}
use Rattle.cg_text.specs.declared.faults.Fault.TheVariants.{NoEvents, EventTwice, TooManyEvents}
use Rattle.cg_text.specs.declared.words.HeaderKey.TheVariants.{Events}
use Rattle.callgrind_reader.specs.Calls.{number_after}
use Rattle.callgrind_reader.specs.Events as events
use Rattle.callgrind_reader.specs.Events.{events_fault, first_of}
use Rattle.callgrind_reader.specs.Faulty.{earlier_or}
use Rattle.callgrind_reader.specs.Files as files
use Rattle.callgrind_reader.specs.Files.{call_fault, first_fault, formulas_fault, names_or_none, numbered_or, or_else, readings_by}
use Rattle.callgrind_reader.specs.Lines.{fault_at}
use Rattle.histories.specs.Formats.{Format, Callgrind, Folded}
use Rattle.histories.specs.Files.{events_of, fault_of}

-- ---- no fault of several

neither : (o : Option Fault) (n : ℕ) (later : Option (Fault × ℕ)) → numbered_or o n later ≡ None → (o ≡ None) × (later ≡ None)
neither (Some fault) n later none = absurd cc
neither None n later none = (refl, none)

self_none : (own other : Option Fault) → or_else own other ≡ None → own ≡ None
self_none (Some fault) other none = absurd cc
self_none None other none = refl

lines_none : (first second : Option (Fault × ℕ)) → earlier_or first second ≡ None → first ≡ None
lines_none (Some fault) second none = absurd cc
lines_none None second none = refl

apart : (empty many distinct : Bool) (rest : Option Fault) → (if empty then Some NoEvents else (if many then Some TooManyEvents else (if not distinct then Some EventTwice else rest))) ≡ None → distinct ≡ true
apart true many distinct rest none = absurd cc
apart false true distinct rest none = absurd cc
apart false false false rest none = absurd cc
apart false false true rest none = refl

-- ---- line by line

abbrev Stand : List Reading → Type 0
Stand back = are_distinct (names_or_none (events.events_of back)) ≡ true

one_more : (earlier : Option (List (List ℕ))) (names : List (List ℕ)) → are_distinct (names_or_none earlier) ≡ true → events_fault names earlier ≡ None → are_distinct (names_or_none (first_of earlier names)) ≡ true
one_more (Some earlier) names was none = was
one_more None names was none = apart (length names == 0) (nat_lt 64 (length names)) (are_distinct names) None none

line_stands : (r : Reading) (back : List Reading) → Stand back → fault_at r back ≡ None → Stand (r ∷ back)
line_stands (Ok (Header Events value)) back was none = one_more (events.events_of back) (fields_of value) was none
line_stands r back was none = was

-- lines in front of others, the nearest first
abbrev onto : List Reading → List Reading → List Reading
onto [] back = back
onto (r ∷ ahead) back = onto ahead (r ∷ back)

all_stand : (back ahead : List Reading) → Stand back → first_fault back ahead ≡ None → Stand (onto ahead back)
all_stand back [] was none = was
all_stand back (r ∷ ahead) was none =
    let two = neither (files.fault_of r back ahead) (number_after back) (first_fault (r ∷ back) ahead) none in
    all_stand (r ∷ back) ahead (line_stands r back was (self_none (fault_at r back) (call_fault r ahead) two.0)) two.1

pub events_apart : (format : Format) (bytes : List ℕ) → fault_of format bytes ≡ None → are_distinct (events_of format bytes) ≡ true
events_apart (Callgrind g) bytes none = all_stand [] (readings_by g bytes) refl (lines_none (first_fault [] (readings_by g bytes)) (formulas_fault (files.end_by g bytes)) none)
events_apart Folded bytes none = refl
