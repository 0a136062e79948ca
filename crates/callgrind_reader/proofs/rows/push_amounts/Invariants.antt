use Rattle.std.proofs.Common.{◌≡◌, ◌+◌, ◌<◌, ◌^◌, length, All}
use Rattle.cg_text.specs.Fields.{fields_of}
use Rattle.cg_text.specs.Numbers.{amount_of}
use Rattle.callgrind_reader.specs.Faulty.{each}
use Rattle.callgrind_reader.specs.Parts.{with_front}
use Rattle.callgrind_reader.proofs.rows.push_amounts.Given as goal

-- the amounts so far in front of those to come are all
abbrev pub invariant-loop-field : goal.invariant-loop-field
invariant-loop-field l = record {
  value : with_front l.row.items (each amount_of (fields_of l.rest)) ≡ with_front l.fn.row.items (each amount_of (fields_of l.text));
  count : length l.row.items + length (fields_of l.rest) ≡ length l.fn.row.items + length (fields_of l.text);
  small : All (λ c. c < 2 ^ 63) l.fn.row.items → All (λ c. c < 2 ^ 63) l.row.items;
}

abbrev pub decreases-loop-field : goal.decreases-loop-field
decreases-loop-field l = length l.rest
