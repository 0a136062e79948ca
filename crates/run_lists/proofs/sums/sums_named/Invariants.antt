use Rattle.std.proofs.Common.{◌≡◌, ◌<◌, take}
use Rattle.cost_rows.specs.KeySums.{sum_end}
use Rattle.run_lists.specs.Sums.{calls_sum, self_sum}
use Rattle.run_lists.proofs.sums.sums_named.Given as goal

abbrev pub invariant-loop-event : goal.invariant-loop-event
invariant-loop-event l = record {
  own : l.own ≡ self_sum (take l.event-index l.events) l.name;
  calls : l.calls ≡ calls_sum (take l.event-index l.events) l.name;
  own_fits : l.own < sum_end;
  calls_fit : l.calls < sum_end;
}
