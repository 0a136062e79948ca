use Rattle.std.proofs.Common.{◌≤◌}
use Rattle.std.specs.List.{AllAdjacentBelow}
use Rattle.run_lists.proofs.run_lines.do_rise.Given as goal

abbrev pub invariant-loop-k : goal.invariant-loop-k
invariant-loop-k g l = AllAdjacentBelow (λ a b. g.L.OfRun.run_of a ≤ g.L.OfRun.run_of b) l.lines l.k
