use Rattle.std.proofs.Common.{[]}
use Rattle.byte_io.specs.Outcomes.{bytes_of}
use Rattle.file_reading.specs.Running.{HasTaken}
use Rattle.file_reading.proofs.files.total_of.Goals as goal

pub finish-requires : goal.finish-requires
finish-requires g c =
    let was = c.in-Ok.ensures in
    let took : HasTaken c.read_all.new.takes (bytes_of was.outcomes) = was.read.1 tt [] c.in_ok-total.ensures in took.ready

pub returns-in_ok-finish-in-Ok : goal.returns-in_ok-finish-in-Ok
returns-in_ok-finish-in-Ok g c =
    let was = c.in-Ok.ensures in
    let took : HasTaken c.read_all.new.takes (bytes_of was.outcomes) = was.read.1 tt [] c.in_ok-total.ensures in
    record {
      outcomes = was.outcomes;
      came = was.came;
      read = (was.read.0, c.in_ok-finish-in-Ok.ensures (bytes_of was.outcomes) took.sums);
    }
