use Rattle.std.proofs.Common.{◌≡◌, map, take}
use Rattle.run_stores.specs.Entries.{entry_run}
use Rattle.run_lists.specs.declared.listed.ListedRun.{ListedRun}
use Rattle.run_lists.proofs.listed.RunLists.runs.Given as goal

abbrev pub invariant-loop-line : goal.invariant-loop-line
invariant-loop-line l = map entry_run l.entries.items ≡ map (λ (r : ListedRun). entry_run r.entry) (take l.line-index l.line-items)
