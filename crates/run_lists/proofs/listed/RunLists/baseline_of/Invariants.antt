use Rattle.std.proofs.Common.{◌≡◌, ◌<◌, false, ℕ, bytes_eq, string_bytes, get_or}
use Rattle.run_lists.specs.declared.listed.ListedGroup.{ListedGroup}
use Rattle.run_lists.proofs.listed.RunLists.baseline_of.Given as goal

-- no group so far has the name
abbrev pub invariant-loop-line : goal.invariant-loop-line
invariant-loop-line l = (k : ℕ) (d : ListedGroup) → k < l.line-index → bytes_eq (string_bytes (get_or l.line-items k d).name) l.name ≡ false
