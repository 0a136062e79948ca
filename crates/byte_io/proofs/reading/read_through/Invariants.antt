use Rattle.std.proofs.Common.{◌≡◌, ◌+◌, ◌<◌, false, List, length}
use Rattle.std.specs.List.{list_any}
use Rattle.byte_io.specs.Outcomes.{Outcome, bytes_of, is_failed}
use Rattle.byte_io.specs.Takes.{HasRoom, Takes}
use Rattle.byte_io.specs.Reads.{Reads}
use Rattle.byte_io.proofs.reading.read_through.Given as goal

-- each read but the last takes of the bytes that may still come
abbrev pub decreases-reads : goal.decreases-reads
decreases-reads g l = l.left

abbrev pub invariant-reads : goal.invariant-reads
invariant-reads g l = record {
  outcomes : List Outcome;
  came : Reads g.S.Source.reads l.fn.source outcomes l.source;
  unfailed : list_any is_failed outcomes ≡ false;
  left : length (bytes_of outcomes) + l.left ≡ l.fn.limit;
  some : 0 < length l.buffer;
  room : HasRoom g.T.ByteSink.has_taken l.takes l.left;
  took : Takes g.T.ByteSink.has_taken l.fn.takes (bytes_of outcomes) l.takes;
}
