use Rattle.file_reading.proofs.SumsLemmas.{small-added}
use Rattle.file_reading.proofs.sums.CostSumsSink.self_cost.Goals as goal

pub invariant_of-self-2 : goal.invariant_of-self-2
invariant_of-self-2 c =
    let last = c.args.self.now.last in
    let sums = c.args.self.now.sums.items in
    let costs = c.args.r.costs.now in
    record { small = rw c.in_ok-add_costs.ensures.ok (small-added sums costs last c.args.r.at c.requires.rises c.args.self.now.small c.requires.small) }
