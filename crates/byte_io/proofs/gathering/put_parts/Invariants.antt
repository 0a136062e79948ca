use Rattle.std.proofs.Common.{◌≡◌, ◌++◌, ℕ, List, drop, flat_map}
use Rattle.byte_io.specs.Gone.{IsOn}
use Rattle.byte_io.specs.Parts.{part_text}
use Rattle.byte_io.proofs.gathering.put_parts.Given as goal

-- the parts so far, and those to come
abbrev pub invariant-loop-part : goal.invariant-loop-part
invariant-loop-part g l =
    (from : _) (text : List ℕ) → IsOn g.W.TextSink.takes from l.initial.held.items l.initial.out text
    → (bytes : List ℕ) × IsOn g.W.TextSink.takes from l.held.items l.out bytes
    × (bytes ++ flat_map part_text (drop l.part-index l.parts) ≡ text ++ flat_map part_text l.parts)
