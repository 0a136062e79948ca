use Rattle.std.proofs.Common.{◌≤◌, ◌<◌, ◌-◌, length}
use Rattle.page_lists.proofs.some_rows.end_of_group.Given as goal

abbrev pub invariant-near : goal.invariant-near
invariant-near l = record {
  onward : l.from < l.end;
  within : l.end ≤ length l.sorted;
}

abbrev pub decreases-near : goal.decreases-near
decreases-near l = length l.sorted - l.end
