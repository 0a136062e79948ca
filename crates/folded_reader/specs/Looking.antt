-- The first fault and the stacks as they can be told looking back, after some lines, of which the nearest stands first.
use Rattle.std.specs.Prelude.{ℕ, ◌+◌, List, [], ◌∷◌, length, Option, Some, None, Ok, Err}
use Rattle.cg_text.specs.declared.faults.Fault.{Fault}
use Rattle.folded_reader.specs.Lines.{Reading}
use Rattle.profile_records.specs.Stacks.{Seen}

-- the number of a line that these stand before
abbrev pub number_after : List Reading → ℕ
number_after back = length back + 1

abbrev pub earlier_or : Option (Fault × ℕ) → Option (Fault × ℕ) → Option (Fault × ℕ)
earlier_or (Some fault) later = Some fault
earlier_or None later = later

-- the fault of a line, with the line's number
abbrev pub fault_at : Reading → ℕ → Option (Fault × ℕ)
fault_at (Err fault) n = Some (fault, n)
fault_at (Ok said) n = None

-- the first fault of the lines so far
abbrev pub seen : List Reading → Option (Fault × ℕ)
seen [] = None
seen (r ∷ back) = earlier_or (seen back) (fault_at r (number_after back))

-- the stack of a line, with the line's number
abbrev pub stack_at : Reading → ℕ → List Seen
stack_at (Err fault) n = []
stack_at (Ok None) n = []
stack_at (Ok (Some stack)) n = record { at = n; stack = stack } ∷ []

abbrev pub unless_seen : {A : Type 0} → Option (Fault × ℕ) → List A → List A
unless_seen (Some fault) xs = []
unless_seen None xs = xs

-- what a line adds to the stacks
abbrev pub adds : Reading → List Reading → List Seen
adds r back = unless_seen (seen (r ∷ back)) (stack_at r (number_after back))
