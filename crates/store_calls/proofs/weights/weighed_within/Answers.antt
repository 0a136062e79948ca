use Rattle.std.proofs.Common.{rules, ◌≡◌, ◌+◌, ◌*◌, ◌<◌, get_or, length, slice_index, sym, ap₂, ◌∙◌}
use Rattle.store_calls.proofs.WeightLemmas.{weighed_more}
use Rattle.store_calls.proofs.weights.weighed_within.Goals as goal

pub loop-column-preserved : goal.loop-column-preserved
loop-column-preserved c =
    let k = c.loop-column.column in
    let counts = c.args.counts.now in
    let costs = c.args.costs.now in
    let low : k < length counts = search rules in
    let one = c.in_ok-cost.ensures.within in
    let cost : c.in_ok-cost.cost ≡ get_or counts k 0 * slice_index costs k = search rules in
    record {
      value = ap₂ ◌+◌ c.loop-column.invariant.value cost ∙ sym (weighed_more k counts costs low);
      small = one.1;
    }
