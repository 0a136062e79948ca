use Rattle.std.proofs.Common.{◌≡◌, ◌++◌, length}
use Rattle.cg_text.specs.Fields.{fields_of}
use Rattle.callgrind_reader.proofs.events.read_names.Given as goal

-- the names so far, and those to come
abbrev pub invariant-loop-field : goal.invariant-loop-field
invariant-loop-field l = l.names ++ fields_of l.rest ≡ fields_of l.text

abbrev pub decreases-loop-field : goal.decreases-loop-field
decreases-loop-field l = length l.rest
