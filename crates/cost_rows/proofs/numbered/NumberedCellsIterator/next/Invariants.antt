use Rattle.std.proofs.Common.{◌≡◌, ◌+◌, ◌<◌, ◌^◌, ◌++◌, length}
use Rattle.cost_rows.specs.ByNumber.{numbered_at, numbered_cells}
use Rattle.cost_rows.proofs.WalksLemmas.{steps}
use Rattle.cost_rows.proofs.numbered.NumberedCellsIterator.next.Given as goal

-- what was passed gives no row
abbrev pub invariant-loop-cost : goal.invariant-loop-cost
invariant-loop-cost l = record {
  rows : numbered_at l.self-inside.place l.self-inside.event l.self-inside.costs.now ++ numbered_cells l.self-inside.rest
      ≡ numbered_at l.initial.self-inside.place l.initial.self-inside.event l.initial.self-inside.costs.now ++ numbered_cells l.initial.self-inside.rest;
  fits : l.self-inside.event + length l.self-inside.costs.now < 2 ^ 64;
}

abbrev pub decreases-loop-cost : goal.decreases-loop-cost
decreases-loop-cost l = length l.self-inside.costs.now + steps l.self-inside.rest
