-- When a file that is being read represents the bytes so far, and what it is read as.
use Rattle.std.specs.Prelude.{◌≡◌, ℕ, ◌+◌, List, [], length, fold, Result, Ok, Err, None, Some}
use Rattle.cg_text.specs.declared.faults.Fault as faults
use Rattle.cg_text.specs.declared.faults.ReadEnd.{ReadEnd}
use Rattle.cg_text.specs.declared.faults.ReadEnd.TheVariants as ends
use Rattle.cg_formulas.specs.declared.heads.FileHead.{FileHead}
use Rattle.callgrind_reader.specs.Reads as records
use Rattle.profile_records.specs.Records.{Record}
use Rattle.callgrind_reader.specs.declared.reader.Reader.{Reader}
use Rattle.profile_records.specs.Marks.{KnowsNothing}
use Rattle.profile_records.specs.Stacks.{Seen}
use Rattle.folded_reader.specs.Reads as stacks
use Rattle.folded_reader.specs.declared.reader.FoldedReader.{FoldedReader}
use Rattle.cost_rows.specs.Content.{empty, with_record, with_stack}
use Rattle.cost_rows.specs.Rows.{content_of, known_of}
use Rattle.cost_rows.specs.declared.file_rows.FileRows.{FileRows}
use Rattle.sha2.specs.Hashers.{Holds256}
use Rattle.sha2.specs.Sha256.{sha256}
use Rattle.profile_records.specs.declared.kinds.Kind.{Kind}
use Rattle.profile_records.specs.declared.kinds.Kind.TheVariants as kinds
use Rattle.histories.specs.Formats.{today}
use Rattle.histories.specs.Files.{fault_of, IsHeadOf, rows_of}
use Rattle.file_reading.specs.declared.parser.FileReader.{FileReader}
use Rattle.file_reading.specs.declared.parser.FileReader.TheVariants as readers
use Rattle.file_reading.specs.declared.parser.FileParser.{FileParser}
use Rattle.file_reading.specs.declared.parser.ParsedFile.{ParsedFile}

-- ---- a reader represents bytes, with the rows of what it handed on, which take what comes next

pub record ReadsRecords (r : Reader) (rows : FileRows) (bytes : List ℕ) : Type 0 where
  pub told : List Record
  pub reads : records.Reads r bytes told
  pub rows_are : content_of rows ≡ fold with_record empty told
  pub takes : records.Takes r rows.last rows.width (known_of rows)
  pub room : records.room_of r + length bytes ≡ 1073741824

pub record ReadsStacks (r : FoldedReader) (rows : FileRows) (bytes : List ℕ) : Type 0 where
  pub told : List Seen
  pub reads : stacks.Reads r bytes told
  pub rows_are : content_of rows ≡ fold with_stack empty told
  pub takes : stacks.Takes r rows.last
  pub room : stacks.room_of r + length bytes ≡ 1073741824

abbrev pub Stands : FileReader → FileRows → Kind → List ℕ → Type 0
Stands (readers.Callgrind r) rows kinds.Callgrind bytes = ReadsRecords r rows bytes
Stands (readers.Folded r) rows kinds.Folded bytes = ReadsStacks r rows bytes
Stands r rows kind bytes = ⊥

-- a reader that has read nothing stands with rows to which nothing was added
abbrev pub RepresentsAtFirst : FileReader → Kind → Type 0
RepresentsAtFirst r kind = (rows : FileRows) → content_of rows ≡ empty → rows.last ≡ 0 → rows.width ≡ None → KnowsNothing (known_of rows) → Stands r rows kind []

-- and the digest is that of the bytes
pub record HasTaken (i : FileParser) (kind : Kind) (bytes : List ℕ) : Type 0 where
  pub reader : Stands i.reader i.rows kind bytes
  pub digest : Holds256 i.digest bytes

-- ---- at the end

-- the head and the rows of a file without a fault, or its first fault and the line
abbrev pub IsFileOf : Kind → List ℕ → Result (FileHead × FileRows) (faults.Fault × ℕ) → Type 0
IsFileOf kind bytes (Ok file) = (fault_of (today kind) bytes ≡ None) × IsHeadOf kind file.0 bytes × (content_of file.1 ≡ rows_of kind bytes)
IsFileOf kind bytes (Err fault) = fault_of (today kind) bytes ≡ Some fault

-- what a reader and its rows come to
abbrev pub HasEndedAs : Kind → List ℕ → Result FileHead ReadEnd → FileRows → Type 0
HasEndedAs kind bytes (Ok head) rows = IsFileOf kind bytes (Ok (head, rows))
HasEndedAs kind bytes (Err (ends.Fault fault line)) rows = fault_of (today kind) bytes ≡ Some (fault, line)
HasEndedAs kind bytes (Err ends.Memory) rows = Unit {0}

pub record IsParsedOf (kind : Kind) (bytes : List ℕ) (t : ParsedFile) : Type 0 where
  pub digest : t.digest ≡ sha256 bytes
  pub file : IsFileOf kind bytes t.file
