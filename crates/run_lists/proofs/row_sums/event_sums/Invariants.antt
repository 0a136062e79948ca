use Rattle.std.proofs.Common.{◌≡◌, ℕ, slice_index, take}
use Rattle.run_lists.specs.RowSums.{costs_of_calls, self_costs}
use Rattle.run_lists.proofs.row_sums.event_sums.Given as goal

abbrev pub invariant-loop-event : goal.invariant-loop-event
invariant-loop-event l = record {
  cells : (k : ℕ) → slice_index l.self_costs.items k ≡ self_costs l.run (take l.event-index l.events) k;
  calls : (k : ℕ) → slice_index l.call_costs.items k ≡ costs_of_calls l.run (take l.event-index l.events) k;
}
