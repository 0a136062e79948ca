-- What a line makes of a state, and of the sink that takes its record.
use Rattle.std.specs.Prelude.{◌≡◌, ◌+◌, ◌<◌, ◌≤◌, ◌^◌, List, ◌∷◌, fold, length, Result, Option, Some, IfSome, IfOk, OnOk, OnErr}
use Rattle.std.specs.declared.alloc.AllocError.{AllocError}
use Rattle.cg_text.specs.Readings.{Reading}
use Rattle.cg_text.specs.declared.faults.Fault.{Fault}
use Rattle.profile_records.specs.Records.{Record}
use Rattle.profile_records.specs.declared.sink.Sink.{Ghosts}
use Rattle.callgrind_reader.specs.Accept.{adds}
use Rattle.callgrind_reader.specs.Calls.{number_after}
use Rattle.callgrind_reader.specs.Costs.{AreAmounts}
use Rattle.callgrind_reader.specs.Lines.{record_of}
use Rattle.callgrind_reader.specs.Marks.{KnownHolds, MarksStay}
use Rattle.callgrind_reader.specs.Stated.{stated_lines}
use Rattle.callgrind_reader.specs.Representation.{Live, RepresentsAfter, Follows, count_of}
use Rattle.callgrind_reader.specs.declared.state.State.{State}

-- the line at hand is counted, and has stated no totals yet
pub record IsCounted (s : State) : Type 0 where
  pub few : s.lines < 2 ^ 63
  pub stated : stated_lines s.header.stated < s.lines

-- it is still the same line, and no fault was kept
pub record SameLine (old new : State) : Type 0 where
  pub lines : new.lines ≡ old.lines
  pub fault : new.fault ≡ old.fault

-- a line that has no record was read: with its own fault, or the state has what holds after it; events that are named stay so, and so does what was told of marks
pub record Takes (old : State) (r : Reading) (fault : Option Fault) (new : State) : Type 0 where
  pub follows : (back : List Reading) → Live old back → old.lines ≡ number_after back → Follows new r fault back
  pub events : IfSome old.header.events.names (λ names. new.header.events.names ≡ Some names)
  pub marks : MarksStay old.names new.names

module _ {S : Type 0} (g : Ghosts S) where
  -- the sink takes the record of a later line
  abbrev pub Fits : State → S → Type 0
  Fits s sink = (g.last sink ≤ s.lines) × IfSome (g.width sink) (λ n. count_of s.header.events.names ≡ Some n) × KnownHolds s.names (g.known sink)

  -- the sink takes the record of this line
  pub record FitsNow (s : State) (sink : S) : Type 0 where
    pub rises : g.last sink < s.lines
    pub wide : IfSome (g.width sink) (λ n. count_of s.header.events.names ≡ Some n)
    pub known : KnownHolds s.names (g.known sink)

  -- and one with the costs in the row
  pub record FitsRow (s : State) (sink : S) : Type 0 where
    pub rises : g.last sink < s.lines
    pub wide : IfSome (g.width sink) (λ n. length s.row.items ≡ n)
    pub small : AreAmounts s.row.items
    pub known : KnownHolds s.names (g.known sink)

  -- a record of this line with the costs in the row was handed on, or refused
  pub record Hands (s : State) (record_by : List Reading → Record) (result : Result Unit AllocError) (old new : S) : Type 0 where
    pub told : OnOk result ((back : List Reading) → Live s back → s.lines ≡ number_after back → g.meaning new ≡ g.step (g.meaning old) (record_by back))
    pub last : OnOk result (g.last new ≡ s.lines)
    pub width : OnOk result (g.width new ≡ Some (length s.row.items))
    pub known : KnownHolds s.names (g.known new)
    pub refused : OnErr result (g.meaning new ≡ g.meaning old)

  -- this line, which no fault comes before, was read, and the sink was told its record, if it has one; or that was refused
  pub record ReadsLine (s s' : State) (r : Reading) (result : Result (Option Fault) AllocError) (old new : S) : Type 0 where
    pub follows : IfOk result (λ fault. (back : List Reading) → Live s back → s.lines ≡ number_after back → Follows s' r fault back)
    pub told : OnOk result ((back : List Reading) → Live s back → s.lines ≡ number_after back → g.meaning new ≡ fold g.step (g.meaning old) (record_of r back))
    pub fits : OnOk result (Fits s' new)
    pub refused : OnErr result (g.meaning new ≡ g.meaning old)
    pub same : SameLine s s'

  -- one line more was read, and the sink was told what it adds; or that was refused
  pub record ReadsOn (s s' : State) (r : Reading) (result : Result Unit AllocError) (old new : S) : Type 0 where
    pub represents : OnOk result ((back : List Reading) → RepresentsAfter s back → RepresentsAfter s' (r ∷ back))
    pub told : OnOk result ((back : List Reading) → RepresentsAfter s back → g.meaning new ≡ fold g.step (g.meaning old) (adds r back))
    pub fits : OnOk result (Fits s' new)
    pub refused : OnErr result (g.meaning new ≡ g.meaning old)
    pub lines : s'.lines ≡ s.lines + 1
