use Rattle.std.specs.List.{AllAdjacentBelow}
use Rattle.run_stores.specs.Entries.{IsBefore}
use Rattle.run_lists.proofs.groups.names_rise.Given as goal

abbrev pub invariant-loop-k : goal.invariant-loop-k
invariant-loop-k l = AllAdjacentBelow IsBefore l.entries l.k
