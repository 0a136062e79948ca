use Rattle.std.proofs.Common.{[]}
use Rattle.byte_io.specs.Outcomes.{bytes_of}
use Rattle.file_reading.proofs.reading.parse_file.Goals as goal

pub finish-requires : goal.finish-requires
finish-requires g c =
    let was = c.in-Ok.ensures in
    (c.args.kind, bytes_of was.outcomes, was.read.1 c.args.kind [] c.in_ok-parser.ensures)
