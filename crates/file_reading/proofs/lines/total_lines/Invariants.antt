use Rattle.std.proofs.Common.{◌≡◌, ◌++◌, drop, slice_index}
use Rattle.file_reading.specs.TotalLines.{total_lines}
use Rattle.file_reading.proofs.lines.total_lines.Given as goal

-- the lines so far, and those to come
abbrev pub invariant-loop-k : goal.invariant-loop-k
invariant-loop-k l =
    l.text.items ++ total_lines (λ k. slice_index l.sums k) l.k (drop l.k l.events)
    ≡ total_lines (λ k. slice_index l.sums k) 0 l.events
