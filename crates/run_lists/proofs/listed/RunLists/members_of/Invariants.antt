use Rattle.std.proofs.Common.{◌≡◌, ◌==◌, map, filter, take}
use Rattle.std.specs.List.{list_any}
use Rattle.run_lists.specs.declared.listed.ListedRun.{ListedRun}
use Rattle.run_lists.proofs.listed.RunLists.members_of.Given as goal

abbrev pub invariant-loop-line : goal.invariant-loop-line
invariant-loop-line l = l.numbers ≡ filter (λ n. list_any (λ m. m == n) l.members.items) (map (λ (r : ListedRun). r.entry.number) (take l.line-index l.line-items))
