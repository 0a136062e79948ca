-- A total that is being read.
use Rattle.std.specs.Prelude.{◌≡◌, ℕ, ◌+◌, List, [], fold, length}
use Rattle.profile_records.specs.Records.{Record}
use Rattle.callgrind_reader.specs.Reads.{Reads, Takes, room_of}
use Rattle.file_reading.specs.Sums.{add_record, knows_none}
use Rattle.file_reading.specs.declared.total.Total.{Total}

-- its sums take the reader's next record
abbrev pub IsReady : Total → Type 0
IsReady t = Takes t.reader t.sums.last t.sums.width (knows_none t.sums)

-- it has read this text so far, and has the sums of the records that were handed on
abbrev pub SumsUp : Total → List ℕ → Type 0
SumsUp t text = (told : List Record) × Reads t.reader text told × (t.sums.sums.items ≡ fold add_record [] told)

-- and it takes as many bytes more as a file may have
pub record HasTaken (t : Total) (text : List ℕ) : Type 0 where
  pub ready : IsReady t
  pub sums : SumsUp t text
  pub room : room_of t.reader + length text ≡ 1073741824
