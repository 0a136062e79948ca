-- When a reader represents a text, having handed out some records; and what a file is read as.
use Rattle.std.specs.Prelude.{◌≡◌, ℕ, ◌+◌, ◌≤◌, List, [], ◌++◌, Option, Some, None, IfSome, Result, Ok, Err}
use Rattle.cg_formulas.specs.declared.heads.FileHead.{FileHead}
use Rattle.cg_text.specs.Readings.{reading_of}
use Rattle.cg_text.specs.declared.faults.ReadEnd.{ReadEnd}
use Rattle.cg_text.specs.declared.faults.ReadEnd.TheVariants as ends
use Rattle.callgrind_reader.specs.declared.reader.Reader.{Reader}
use Rattle.profile_records.specs.Records.{Record}
use Rattle.profile_records.specs.declared.marks.Mark.{Mark}
use Rattle.cg_text.specs.declared.words.Namespace.{Namespace}
use Rattle.callgrind_reader.specs.Files.{records_of_file, sound_records, fault_of_file, events_of_file, derived_of_file, stated_of_file}
use Rattle.text_pieces.specs.Kept as pieces
use Rattle.text_pieces.specs.Readers.{Represents, HandsAll, HandsPart}
use Rattle.callgrind_reader.specs.Marks.{KnownHolds}
use Rattle.callgrind_reader.specs.Representation.{RepresentsAfter, count_of}

-- the reader represents the text so far, and has handed out these records
abbrev pub Reads : Reader → List ℕ → List Record → Type 0
Reads r = Represents reading_of (sound_records []) RepresentsAfter r.pieces r.state

-- a sink with this last line and this width of records, which knows this of marks, would take the next record
abbrev pub Takes : Reader → ℕ → Option ℕ → (Namespace → Mark → Option (List ℕ)) → Type 0
Takes r last width known = (last ≤ r.state.lines) × IfSome width (λ n. count_of r.state.header.events.names ≡ Some n) × KnownHolds r.state.names known

module _ {M : Type 0} (step : M → Record → M) where
  -- bytes were refused: the sink was told a part of what was still to be handed on
  abbrev pub BreaksOff : Reader → M → List ℕ → M → Type 0
  BreaksOff old before bytes after = (text : List ℕ) (told : List Record) → Reads old text told → HandsPart records_of_file step (text ++ bytes) told before after

-- how many bytes the reader still takes
abbrev pub room_of : Reader → ℕ
room_of r = pieces.room_of r.pieces

-- memory ran out
abbrev pub IsSpent : Reader → Type 0
IsSpent r = pieces.IsSpent r.pieces

-- the reader takes so many bytes less, a sink that is so would take the next record, and memory did not run out
pub record StaysOpen (old : Reader) (count : ℕ) (new : Reader) (last : ℕ) (width : Option ℕ) (known : Namespace → Mark → Option (List ℕ)) : Type 0 where
  pub takes : Takes new last width known
  pub room : room_of new + count ≡ room_of old
  pub fresh : IsSpent new → ⊥

-- the events, the derived events, which have the names of the events beside them, and the stated totals of a file
pub record HeadOfFile (head : FileHead) (text : List ℕ) : Type 0 where
  pub events : head.events ≡ events_of_file text
  pub own : head.derived.events ≡ events_of_file text
  pub derived : head.derived.derived ≡ derived_of_file text
  pub stated : head.stated ≡ stated_of_file text

-- a head exactly where the file is accepted, else its first fault
abbrev pub Ended : Result FileHead ReadEnd → List ℕ → Type 0
Ended (Ok head) text = (fault_of_file text ≡ None) × HeadOfFile head text
Ended (Err (ends.Fault fault line)) text = fault_of_file text ≡ Some (fault, line)
Ended (Err ends.Memory) text = Unit {0}

-- one fact where memory did not run out, and another where it did
abbrev pub MatchMemory : Result FileHead ReadEnd → Type 0 → Type 0 → Type 0
MatchMemory (Ok head) P Q = P
MatchMemory (Err (ends.Fault fault line)) P Q = P
MatchMemory (Err ends.Memory) P Q = Q

-- the file has ended: the sink was told all that was still to be handed on, or a part where memory ran out
abbrev pub HandsOver : {M : Type 0} → (M → Record → M) → Reader → M → Result FileHead ReadEnd → M → Type 0
HandsOver step r before result after = (text : List ℕ) (told : List Record) → Reads r text told
    → MatchMemory result (HandsAll records_of_file step text told before after) (HandsPart records_of_file step text told before after)
