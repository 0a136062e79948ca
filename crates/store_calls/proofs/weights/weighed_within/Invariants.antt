use Rattle.std.proofs.Common.{◌≡◌, ◌<◌, take}
use Rattle.cost_rows.specs.KeySums.{sum_end}
use Rattle.cg_formulas.specs.Formulas.{weighed}
use Rattle.store_calls.proofs.weights.weighed_within.Given as goal

-- the costs so far, within the bound
abbrev pub invariant-loop-column : goal.invariant-loop-column
invariant-loop-column l = record {
  value : l.sum ≡ weighed (take l.column l.counts) l.costs;
  small : l.sum < sum_end;
}
