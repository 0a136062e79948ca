-- When what a reader keeps represents the lines that it has read.
use Rattle.std.specs.Prelude.{◌≡◌, ℕ, true, List, ◌∷◌, length, Ok, Option, None, Some, is_some}
use Rattle.cg_formulas.specs.Held.{Holds}
use Rattle.cg_text.specs.Readings.{Reading}
use Rattle.cg_text.specs.Kinds as kinds
use Rattle.cg_text.specs.Names.{name_of}
use Rattle.cg_text.specs.Words.{namespace_of}
use Rattle.cg_text.specs.declared.faults.Fault.{Fault}
use Rattle.cg_text.specs.declared.words.NameWord.{NameWord}
use Rattle.cg_text.specs.declared.words.Namespace.TheVariants.{Object, File, Function}
use Rattle.callgrind_reader.specs.declared.names.Names.{Names}
use Rattle.callgrind_reader.specs.declared.header.Header.{Header}
use Rattle.callgrind_reader.specs.declared.state.State.{State}
use Rattle.callgrind_reader.specs.Names.{meaning, name_fault}
use Rattle.callgrind_reader.specs.Events.{events_of}
use Rattle.callgrind_reader.specs.Positions.{settled, offsets_at}
use Rattle.callgrind_reader.specs.Stated.{StatedIs}
use Rattle.callgrind_reader.specs.Threads.{thread_of}
use Rattle.callgrind_reader.specs.Calls.{awaiting}
use Rattle.callgrind_reader.specs.Definitions.{definitions_of}
use Rattle.callgrind_reader.specs.Lines.{fault_at}
use Rattle.callgrind_reader.specs.Accept.{seen}
use Rattle.callgrind_reader.specs.Space.{SpaceIs}
use Rattle.callgrind_reader.specs.Places.{IsPlaced}

pub record HeaderIs (h : Header) (back : List Reading) : Type 0 where
  pub events : h.events.names ≡ events_of back
  pub layout : h.layout ≡ settled back
  pub formulas : Holds h.formulas (definitions_of back)
  pub stated : StatedIs h.stated back
  pub thread : h.thread ≡ thread_of back

pub record NamesAre (n : Names) (back : List Reading) : Type 0 where
  pub objects : SpaceIs n.objects Object back
  pub files : SpaceIs n.files File back
  pub functions : SpaceIs n.functions Function back

-- a name line was taken: its fault, or the names after it
pub record TakesWord (word : NameWord) (value : List ℕ) (old new : Names) (fault : Option Fault) : Type 0 where
  pub fault_is : (back : List Reading) → NamesAre old back → fault ≡ name_fault (name_of value) (λ q. meaning (namespace_of word) q back)
  pub represents : (back : List Reading) → NamesAre old back → fault ≡ None → NamesAre new (Ok (kinds.Name word value) ∷ back)

-- the called names were forgotten, after the cost line of a call
abbrev pub ForgetsCalled : Names → Names → Type 0
ForgetsCalled old new = (back : List Reading) (text : List ℕ) → NamesAre old back → is_some (awaiting back) ≡ true → NamesAre new (Ok (kinds.Cost text) ∷ back)

-- the state has what holds after these lines, none of which shows a fault
pub record Live (s : State) (back : List Reading) : Type 0 where
  pub header : HeaderIs s.header back
  pub names : NamesAre s.names back
  pub places : IsPlaced s.places (offsets_at back)
  pub call : s.call ≡ awaiting back

-- the state represents these lines
pub record RepresentsAfter (s : State) (back : List Reading) : Type 0 where
  pub lines : s.lines ≡ length back
  pub fault : s.fault ≡ seen back
  pub live : seen back ≡ None → Live s back

-- the lines go on with one: f is its own fault, and with none the new state has what holds after it
pub record Follows (new : State) (r : Reading) (f : Option Fault) (back : List Reading) : Type 0 where
  pub fault : fault_at r back ≡ f
  pub live : f ≡ None → Live new (r ∷ back)

-- how many events there are, once they are named
abbrev pub count_of : Option (List (List ℕ)) → Option ℕ
count_of None = None
count_of (Some names) = Some (length names)
