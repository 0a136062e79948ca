use Rattle.std.proofs.Common.{◌≡◌, ◌==◌, ◌<◌, false, ℕ, get_or}
use Rattle.run_lists.specs.declared.listed.ListedRun.{ListedRun}
use Rattle.run_lists.proofs.listed.RunLists.kind_of.Given as goal

-- no run so far has the number
abbrev pub invariant-loop-line : goal.invariant-loop-line
invariant-loop-line l = (k : ℕ) (d : ListedRun) → k < l.line-index → ((get_or l.line-items k d).entry.number == l.run) ≡ false
