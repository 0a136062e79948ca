use Rattle.std.proofs.Common.{◌≡◌, ◌-◌, ◌≤◌, List, length, take}
use Rattle.http_exchange.specs.Streams.{Written, Writes, bytes_written, HaveTaken}
use Rattle.http_exchange.proofs.sending.write_all.Given as goal

abbrev pub invariant-writes : goal.invariant-writes
invariant-writes g l = (writes : List Written) × Writes g.T.Stream.writes l.fn.stream writes l.stream × (bytes_written writes ≡ take l.at l.bytes) × (l.at ≤ length l.bytes) × HaveTaken writes

abbrev pub decreases-writes : goal.decreases-writes
decreases-writes g l = length l.bytes - l.at
