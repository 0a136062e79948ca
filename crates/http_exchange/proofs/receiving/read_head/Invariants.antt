use Rattle.std.proofs.Common.{◌≡◌, ◌-◌, ◌<◌, List, length, take}
use Rattle.byte_io.specs.Outcomes.{Outcome, bytes_of}
use Rattle.byte_io.specs.Reads.{Reads}
use Rattle.http_exchange.specs.Heads.{head_limit, field_limit}
use Rattle.http_exchange.specs.Received.{IsAwaiting}
use Rattle.http_exchange.proofs.receiving.read_head.Given as goal

abbrev pub invariant-reads : goal.invariant-reads
invariant-reads g l = (reads : List Outcome) × Reads g.T.Stream.reads l.fn.stream reads l.stream × (bytes_of reads ≡ take l.filled l.buffer) × IsAwaiting reads × (l.filled < length l.buffer) × (length l.buffer ≡ head_limit) × (length l.fields ≡ field_limit)

abbrev pub decreases-reads : goal.decreases-reads
decreases-reads g l = length l.buffer - l.filled
