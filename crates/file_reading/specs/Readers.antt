-- What is answered where a source gives a file's bytes.
use Rattle.std.specs.Prelude.{◌≡◌, ℕ, ◌<◌, ◌≤◌, List, length, ◌⊎◌, ◌↔◌, IsTrue, false, None, codes}
use Rattle.callgrind_reader.specs.Files.{fault_of_file}
use Rattle.byte_io.specs.Outcomes.{Outcome, bytes_of}
use Rattle.byte_io.specs.Reads.{HasEnded, IsUnreadFor}
use Rattle.byte_io.specs.declared.reading.Unread.{Unread}
use Rattle.byte_io.specs.declared.reading.Unread.TheVariants.{Failed, TooLong}
use Rattle.file_reading.specs.TotalLines.{refused_line}
use Rattle.file_reading.specs.Totals.{total_of_file}
use Rattle.file_reading.specs.declared.total.TotalText.{TotalText}

-- the total of a file with these bytes
pub record IsTotalOf (text : List ℕ) (t : TotalText) : Type 0 where
  pub printed : t.text ≡ total_of_file text
  pub accepted : IsTrue t.accepted ↔ (fault_of_file text ≡ None)

-- a refusal for this reason
pub record IsRefusal (reason : List ℕ) (t : TotalText) : Type 0 where
  pub printed : t.text ≡ refused_line reason
  pub accepted : t.accepted ≡ false

-- a source that gave so much and ended: the total of its bytes
abbrev pub IsComplete : List Outcome → TotalText → Type 0
IsComplete outcomes t = HasEnded 1073741824 outcomes × IsTotalOf (bytes_of outcomes) t

-- a source that was not read to its end for this cause: that it was
abbrev pub IsCut : Unread → List ℕ → List Outcome → TotalText → Type 0
IsCut cause reason outcomes t = IsUnreadFor 1073741824 outcomes cause × IsRefusal reason t

-- what is answered after these reads: the total, or that more came than a file may have, or that the last read failed
abbrev pub IsAnswer : List Outcome → TotalText → Type 0
IsAnswer outcomes t = IsComplete outcomes t ⊎ (IsCut TooLong (codes "too long") outcomes t ⊎ IsCut Failed (codes "read failed") outcomes t)

-- what is answered of a source that is to give these bytes: their total, or that they are too many, or that a read failed
abbrev pub IsAnswerOf : List ℕ → TotalText → Type 0
IsAnswerOf text t = ((length text ≤ 1073741824) × IsTotalOf text t) ⊎ (((1073741824 < length text) × IsRefusal (codes "too long") t) ⊎ IsRefusal (codes "read failed") t)
