use Rattle.std.proofs.Common.{◌≡◌, ◌++◌, drop, flat_map}
use Rattle.byte_io.specs.Parts.{part_text}
use Rattle.byte_io.proofs.texts.push_parts.Given as goal

-- the parts so far, and those to come
abbrev pub invariant-loop-part : goal.invariant-loop-part
invariant-loop-part l = l.all.items ++ flat_map part_text (drop l.part-index l.parts) ≡ l.initial.all.items ++ flat_map part_text l.parts
