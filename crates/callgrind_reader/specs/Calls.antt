-- Calls: a `calls=` line, and the cost line that belongs to it.
use Rattle.std.specs.Prelude.{ℕ, ◌+◌, List, [], ◌∷◌, length, take, nat_lt, if◌then◌else◌, Result, Ok, Err, Option, Some, None, unwrap_or, is_some}
use Rattle.cg_text.specs.Readings.{Reading}
use Rattle.cg_text.specs.Kinds.{Nothing, Cost, Name, Calls}
use Rattle.cg_text.specs.Names.{unknown}
use Rattle.cg_text.specs.Fields.{fields_of}
use Rattle.cg_text.specs.Numbers.{amount_of}
use Rattle.cg_text.specs.Subpositions.{subpos_of}
use Rattle.cg_text.specs.declared.faults.Fault.{Fault}
use Rattle.cg_text.specs.declared.faults.Fault.TheVariants.{ShortLine}
use Rattle.cg_text.specs.declared.words.Namespace.{Namespace}
use Rattle.cg_text.specs.declared.words.Namespace.TheVariants.{Object, File, Function}
use Rattle.cg_text.specs.declared.words.Role.TheVariants.{Called}
use Rattle.callgrind_reader.specs.Faulty.{◌>>=◌, each}
use Rattle.callgrind_reader.specs.Names.{gives, resolved_name, in_force}
use Rattle.callgrind_reader.specs.Positions.{layout_of, width}
use Rattle.profile_records.specs.Records.{Callee}

-- the number of a line that these stand before
abbrev pub number_after : List Reading → ℕ
number_after back = length back + 1

-- a count, and a target for each position; what follows them is ignored
abbrev pub counted : ℕ → List (List ℕ) → Result ℕ Fault
counted n [] = Err ShortLine
counted n (field ∷ targets) =
    if nat_lt (length targets) n then Err ShortLine
    else (amount_of field >>= λ count. (each subpos_of (take n targets) >>= λ places. Ok count))

-- the count of a `calls=` line
abbrev pub count_at : List ℕ → List Reading → Result ℕ Fault
count_at value back = counted (width (layout_of back)) (fields_of value)

abbrev pub count_or : Result ℕ Fault → ℕ
count_or (Ok n) = n
count_or (Err fault) = 0

-- the `calls=` line, by its number and its count, whose cost line comes next: the nearest line that says something
abbrev pub awaiting : List Reading → Option (ℕ × ℕ)
awaiting [] = None
awaiting (Ok Nothing ∷ back) = awaiting back
awaiting (Ok (Calls value) ∷ back) = Some (number_after back, count_or (count_at value back))
awaiting (r ∷ back) = None

-- the called name that was given since the last cost line of a call
abbrev pub called : Namespace → List Reading → Option (List ℕ)
called space [] = None
called space (Ok (Name word value) ∷ back) = if gives space Called word then Some (resolved_name word value back) else called space back
called space (Ok (Cost text) ∷ back) = if is_some (awaiting back) then None else called space back
called space (r ∷ back) = called space back

-- whom calls call: where no object or file is given those in force, where no function is given `???`
abbrev pub callee_of : ℕ → List Reading → Callee
callee_of count back = record {
  object = unwrap_or (called Object back) (in_force Object back);
  file = unwrap_or (called File back) (in_force File back);
  function = unwrap_or (called Function back) unknown;
  count = count;
}
