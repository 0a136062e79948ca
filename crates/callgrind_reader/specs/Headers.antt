-- What a line makes of the header of a file.
use Rattle.std.specs.Prelude.{◌≡◌, ℕ, ◌+◌, ◌≤◌, List, ◌∷◌, length, Ok, Option, None, Some, IfSome}
use Rattle.cg_text.specs.Readings.{Reading}
use Rattle.cg_text.specs.Kinds as kinds
use Rattle.cg_text.specs.declared.faults.Fault.{Fault}
use Rattle.cg_text.specs.declared.words.HeaderKey.{HeaderKey}
use Rattle.callgrind_reader.specs.Calls.{number_after}
use Rattle.callgrind_reader.specs.Files.{names_or_none}
use Rattle.callgrind_reader.specs.Lines.{header_fault}
use Rattle.callgrind_reader.specs.Representation.{HeaderIs}
use Rattle.callgrind_reader.specs.Stated.{stated_lines}
use Rattle.callgrind_reader.specs.Totals.{stated_of}
use Rattle.callgrind_reader.specs.declared.header.Header.{Header}

-- events that are named stay so, and one line more at most has stated totals
pub record HeaderKeeps (old new : Header) : Type 0 where
  pub events : IfSome old.events.names (λ names. new.events.names ≡ Some names)
  pub lines : stated_lines new.stated ≤ stated_lines old.stated + 1

-- a header line of this number was read: this is its fault, and with none the header represents the lines with it
pub record TakesHeader (line : ℕ) (key : HeaderKey) (value : List ℕ) (old : Header) (fault : Option Fault) (new : Header) : Type 0 where
  pub fault_is : (back : List Reading) → HeaderIs old back → fault ≡ header_fault key value back
  pub represents : (back : List Reading) → HeaderIs old back → line ≡ number_after back → fault ≡ None → HeaderIs new (Ok (kinds.Header key value) ∷ back)

-- the totals that are stated, one for each event
abbrev pub StatesTotals : Header → Option (List ℕ) → Type 0
StatesTotals h stated = (back : List Reading) → HeaderIs h back → stated ≡ stated_of (length (names_or_none h.events.names)) back

-- the positions are settled, at a cost line or a `calls=` line
pub record Settles (old new : Header) : Type 0 where
  pub cost : (back : List Reading) (text : List ℕ) → HeaderIs old back → HeaderIs new (Ok (kinds.Cost text) ∷ back)
  pub calls : (back : List Reading) (value : List ℕ) → HeaderIs old back → HeaderIs new (Ok (kinds.Calls value) ∷ back)
  pub events : new.events.names ≡ old.events.names
  pub lines : stated_lines new.stated ≡ stated_lines old.stated
