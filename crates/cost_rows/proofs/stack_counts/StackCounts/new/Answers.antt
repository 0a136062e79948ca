use Rattle.std.proofs.Common.{length, ap}
use Rattle.cost_rows.specs.Merging.{seen}
use Rattle.cost_rows.specs.Stacks.{bytes_cmp}
use Rattle.cost_rows.proofs.SlotsLemmas.{no_slots}
use Rattle.cost_rows.proofs.StackCountsLemmas.{none_found}
use Rattle.cost_rows.proofs.stack_counts.StackCounts.new.Goals as goal

pub invariant_of-result : goal.invariant_of-result
invariant_of-result c = record {
  are = no_slots bytes_cmp _ (length c.new-2.result.items) (ap (seen (λ key. key.items)) c.new.ensures.empty);
  kept = none_found _ c.new-3.result.items c.new-3.ensures.items;
}
