use Rattle.std.proofs.Common.{◌≡◌, ◌++◌, drop}
use Rattle.byte_io.specs.Escapes.{escaped}
use Rattle.byte_io.proofs.escapes.push_escaped.Given as goal

-- the text so far, and what is to come
abbrev pub invariant-loop-byte : goal.invariant-loop-byte
invariant-loop-byte l = l.text.items ++ escaped (drop l.byte-index l.name) ≡ l.fn.text.items ++ escaped l.name
