use Rattle.std.proofs.Common.{◌≡◌, map, take}
use Rattle.run_lists.specs.Sums.{calls_sum, self_sum}
use Rattle.run_lists.proofs.listed.RunLists.totals_of.Given as goal

abbrev pub invariant-loop-event : goal.invariant-loop-event
invariant-loop-event l =
    (l.self_cost ≡ map (self_sum l.self.events) (take l.event-index l.events)) × (l.call_cost ≡ map (calls_sum l.self.events) (take l.event-index l.events))
