use Rattle.std.proofs.Common.{◌≤◌, length, take}
use Rattle.std.specs.Io.KnownBytes.{Appends}
use Rattle.byte_io.proofs.writing.write_text.Given as goal

-- the first bytes are written
abbrev pub invariant-writes : goal.invariant-writes
invariant-writes g l = record {
  within : l.written ≤ length l.fn.text;
  written : Appends (g.W.Write.contents l.fn.out) (g.W.Write.contents l.out) (take l.written l.fn.text);
}
