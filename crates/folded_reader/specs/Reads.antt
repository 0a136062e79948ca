-- When a reader represents a text, having handed out some stacks; and what a file is read as.
use Rattle.std.specs.Prelude.{◌≡◌, ℕ, ◌+◌, ◌≤◌, List, Some, None, Result, Ok, Err}
use Rattle.cg_formulas.specs.declared.heads.FileHead.{FileHead}
use Rattle.cg_text.specs.declared.faults.ReadEnd.{ReadEnd}
use Rattle.cg_text.specs.declared.faults.ReadEnd.TheVariants as ends
use Rattle.text_pieces.specs.Backwards.{so_far}
use Rattle.text_pieces.specs.Kept as pieces
use Rattle.text_pieces.specs.Readers.{Represents}
use Rattle.folded_reader.specs.declared.reader.FoldedReader.{FoldedReader}
use Rattle.folded_reader.specs.Lines.{reading_of}
use Rattle.profile_records.specs.Stacks.{Seen}
use Rattle.folded_reader.specs.Files.{stacks_from, fault_of_file}
use Rattle.folded_reader.specs.Representation.{RepresentsAfter}
use Rattle.folded_reader.specs.Heads.{HeadIs}

-- the reader represents the text so far, and has handed out these stacks
abbrev pub Reads : FoldedReader → List ℕ → List Seen → Type 0
Reads r = Represents reading_of (stacks_from 1) RepresentsAfter r.pieces r.state

-- the stacks of the lines that end in a line feed, before the first with a fault
abbrev pub stacks_so_far : List ℕ → List Seen
stacks_so_far = so_far reading_of (stacks_from 1)

-- a sink with this last line would take the next stack
abbrev pub Takes : FoldedReader → ℕ → Type 0
Takes r last = last ≤ r.state.lines

-- how many bytes the reader still takes
abbrev pub room_of : FoldedReader → ℕ
room_of r = pieces.room_of r.pieces

-- memory ran out
abbrev pub IsSpent : FoldedReader → Type 0
IsSpent r = pieces.IsSpent r.pieces

-- the reader takes so many bytes less, a sink with this last line would take the next stack, and memory did not run out
pub record StaysOpen (old : FoldedReader) (count : ℕ) (new : FoldedReader) (last : ℕ) : Type 0 where
  pub takes : Takes new last
  pub room : room_of new + count ≡ room_of old
  pub fresh : IsSpent new → ⊥

-- a head exactly where the file is accepted, else its first fault
abbrev pub Ended : Result FileHead ReadEnd → List ℕ → Type 0
Ended (Ok head) text = (fault_of_file text ≡ None) × HeadIs head
Ended (Err (ends.Fault fault line)) text = fault_of_file text ≡ Some (fault, line)
Ended (Err ends.Memory) text = Unit {0}

-- one fact where memory did not run out, and another where it did
abbrev pub MatchMemory : Result FileHead ReadEnd → Type 0 → Type 0 → Type 0
MatchMemory (Ok head) P Q = P
MatchMemory (Err (ends.Fault fault line)) P Q = P
MatchMemory (Err ends.Memory) P Q = Q
