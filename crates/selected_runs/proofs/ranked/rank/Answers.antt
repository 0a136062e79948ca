use Rattle.std.proofs.lemmas.List.Sorted.{IsPermutation-map, IsPermutation-sym}
use Rattle.selected_runs.specs.Ranked.{sum_of, sums_of}
use Rattle.selected_runs.proofs.EnoughLemmas.{falls_sorted}
use Rattle.selected_runs.proofs.ranked.rank.Goals as goal

pub returns-clause-order : goal.returns-clause-order
returns-clause-order c = falls_sorted c.sort_unstable.new.self.items c.sort_unstable.ensures.sorted

pub returns-clause-same : goal.returns-clause-same
returns-clause-same c =
    IsPermutation-sym (sums_of c.args.rows.now.items) (sums_of c.sort_unstable.new.self.items)
    (IsPermutation-map sum_of c.args.rows.now.items c.sort_unstable.new.self.items c.sort_unstable.ensures.permutation)
