use Rattle.std.proofs.Common.{◌≡◌, ◌++◌, drop, length, map, sum}
use Rattle.line_fills.specs.Records.{cut}
use Rattle.line_fills.proofs.records.Records.slices.Given as goal

pub record AreCut (P Q : Type 0) : Type 0 where
  pub parts : P
  pub left : Q

abbrev pub invariant-loop-length : goal.invariant-loop-length
invariant-loop-length l = AreCut (map (λ slice. slice.now) l.slices.items ++ cut l.rest (drop l.length-index l.length-items) ≡ l.fn.self) (sum (drop l.length-index l.length-items) ≡ length l.rest)
