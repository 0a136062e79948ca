use Rattle.std.proofs.Common.{◌≡◌, true, take}
use Rattle.std.specs.List.{list_all}
use Rattle.std.specs.List.Sorted.{IsNonDecreasing}
use Rattle.run_lists.specs.HeldRuns.{is_none_or_one_of}
use Rattle.run_lists.specs.declared.listed.ListedGroup.{ListedGroup}
use Rattle.run_lists.proofs.held_runs.are_baselines_of.Given as goal

-- the baselines so far are among the runs
abbrev pub invariant-loop-group : goal.invariant-loop-group
invariant-loop-group l = IsNonDecreasing l.runs → list_all (λ (group : ListedGroup). is_none_or_one_of l.runs group.baseline) (take l.group-index l.groups) ≡ true
