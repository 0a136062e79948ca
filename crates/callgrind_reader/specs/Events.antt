-- The events of a file.
use Rattle.std.specs.Prelude.{ℕ, Bool, true, false, ◌&&◌, not, List, [], ◌∷◌, length, ◌==◌, nat_lt, if◌then◌else◌, Ok, Option, Some, None}
use Rattle.std.specs.Str.{bytes_eq}
use Rattle.cg_text.specs.Readings.{Reading}
use Rattle.cg_text.specs.Kinds.{Header}
use Rattle.cg_text.specs.Fields.{fields_of}
use Rattle.cg_text.specs.Distinct.{are_distinct}
use Rattle.cg_text.specs.declared.faults.Fault.{Fault}
use Rattle.cg_text.specs.declared.faults.Fault.TheVariants.{NoEvents, EventTwice, EventsChanged, TooManyEvents}
use Rattle.cg_text.specs.declared.words.HeaderKey.TheVariants.{Events}

abbrev pub first_of : {A : Type 0} → Option A → A → Option A
first_of None x = Some x
first_of (Some earlier) x = Some earlier

-- the names of the first `events:` line
abbrev pub events_of : List Reading → Option (List (List ℕ))
events_of [] = None
events_of (Ok (Header Events value) ∷ back) = first_of (events_of back) (fields_of value)
events_of (r ∷ back) = events_of back

-- whether two lists have the same names in the same order
abbrev pub same_names : List (List ℕ) → List (List ℕ) → Bool
same_names [] [] = true
same_names (a ∷ as') (b ∷ bs) = bytes_eq a b && same_names as' bs
same_names as' bs = false

abbrev pub changed : Option (List (List ℕ)) → List (List ℕ) → Option Fault
changed None names = None
changed (Some earlier) names = if same_names earlier names then None else Some EventsChanged

-- the fault of an `events:` line with these names after lines with those
abbrev pub events_fault : List (List ℕ) → Option (List (List ℕ)) → Option Fault
events_fault names earlier =
    if length names == 0 then Some NoEvents
    else (if nat_lt 64 (length names) then Some TooManyEvents
    else (if not (are_distinct names) then Some EventTwice
    else changed earlier names))
