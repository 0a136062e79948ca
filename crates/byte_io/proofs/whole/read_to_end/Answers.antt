use Rattle.std.proofs.Common.{[]}
use Rattle.byte_io.proofs.whole.read_to_end.Goals as goal

pub returns : goal.returns
returns g c =
    let was = c.in_ok-read_all.ensures in
    record { outcomes = was.outcomes; came = was.came; read = (was.read.0, was.read.1 tt [] c.new.ensures.items) }
