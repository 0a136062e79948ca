use Rattle.std.proofs.Common.{◌≡◌, true, take, IfSome}
use Rattle.std.specs.List.{list_all}
use Rattle.std.specs.List.Sorted.{IsNonDecreasing}
use Rattle.run_lists.specs.HeldRuns.{is_one_of}
use Rattle.run_lists.proofs.held_runs.are_of_runs.Given as goal

-- the lines so far are of the runs, as is the run of the last
abbrev pub invariant-loop-line : goal.invariant-loop-line
invariant-loop-line g l = record {
  so_far : IsNonDecreasing l.runs → list_all (λ line. is_one_of l.runs (g.L.OfRun.run_of line)) (take l.line-index l.lines) ≡ true;
  last : IsNonDecreasing l.runs → IfSome l.last (λ run. is_one_of l.runs run ≡ true);
}
