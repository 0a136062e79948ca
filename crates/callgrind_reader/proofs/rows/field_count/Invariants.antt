use Rattle.std.proofs.Common.{◌≡◌, ◌+◌, ◌≤◌, length}
use Rattle.cg_text.specs.Fields.{fields_of}
use Rattle.callgrind_reader.proofs.rows.field_count.Given as goal

-- the fields so far and those to come are all; each took a byte or more
abbrev pub invariant-loop-more : goal.invariant-loop-more
invariant-loop-more l = record {
  counted : l.count + length (fields_of l.rest) ≡ length (fields_of l.text);
  few : l.count + length l.rest ≤ length l.text;
}

abbrev pub decreases-loop-more : goal.decreases-loop-more
decreases-loop-more l = length l.rest
