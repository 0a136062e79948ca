-- What the lines so far are read as if no more come.
use Rattle.std.specs.Prelude.{◌≡◌, ℕ, List, length, Option, Some, None, Result, Ok, Err}
use Rattle.cg_formulas.specs.Flats.{FlatOf}
use Rattle.cg_text.specs.Readings.{Reading}
use Rattle.cg_text.specs.declared.faults.Fault.{Fault}
use Rattle.cg_formulas.specs.declared.heads.FileHead.{FileHead}
use Rattle.cg_text.specs.declared.faults.ReadEnd.{ReadEnd}
use Rattle.cg_text.specs.declared.faults.ReadEnd.TheVariants as ends
use Rattle.callgrind_reader.specs.Events.{events_of}
use Rattle.callgrind_reader.specs.Totals.{stated_of}
use Rattle.callgrind_reader.specs.Definitions.{definitions_of}
use Rattle.callgrind_reader.specs.Files.{names_or_none}
use Rattle.callgrind_reader.specs.Accept.{fault_after}

-- the head of a file with these lines
pub record HeadIs (head : FileHead) (back : List Reading) : Type 0 where
  pub events : head.events ≡ names_or_none (events_of back)
  pub derived : FlatOf head.derived (names_or_none (events_of back)) (definitions_of back)
  pub stated : head.stated ≡ stated_of (length (names_or_none (events_of back))) back

-- the head exactly where there is no fault, else the fault
abbrev pub ComesBy : Option (Fault × ℕ) → Result FileHead ReadEnd → List Reading → Type 0
ComesBy found (Ok head) back = (found ≡ None) × HeadIs head back
ComesBy found (Err (ends.Fault fault line)) back = found ≡ Some (fault, line)
ComesBy found (Err ends.Memory) back = Unit {0}

abbrev pub Comes : Result FileHead ReadEnd → List Reading → Type 0
Comes result back = ComesBy (fault_after back) result back
